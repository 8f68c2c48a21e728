use Rattle.std.proofs.Common.{◌≡◌, ℕ, List, ◌∷◌, ◌++◌, length, Option, Some, Bor, [], sym, ap, subst, arith, ◌∙◌, length-append}
use Rattle.std.specs.Option.{option_copied}
use Rattle.std.specs.Str.{IsUtf8}
use Rattle.nk_script.specs.Texts.{behind, words}
use Rattle.nk_script.proofs.WordsOf.{nows, more_words, read_on, read_last, too_many, has_bad}
use Rattle.nk_script.proofs.text.words_of.Goals as goal

pub returns-in_default : goal.returns-in_default
returns-in_default c few all =
    has_bad c.loop.all.items c.args.line.now c.loop.rest.now c.loop.invariant.read (subst (λ (w : List ℕ). ¬ IsUtf8 w) c.cut.ensures.front c.in_default.ensures.cases.0) all

pub returns-in-None : goal.returns-in-None
returns-in-None c =
    let front = c.in-Ok.ensures.cases.0 ∙ c.cut.ensures.front in
    let last = sym c.cut.ensures.rest ∙ ap option_copied c.in-None.is in
    ap nows c.in-Ok-push.ensures.items ∙ read_last c.loop.all.items c.in-Ok.word c.args.line.now c.loop.rest.now c.loop.invariant.read front last

pub loop-preserved : goal.loop-preserved
loop-preserved c =
    let front = c.in-Ok.ensures.cases.0 ∙ c.cut.ensures.front in
    let more : behind 32 c.loop.rest.now ≡ Some c.in-Some.more.now = sym c.cut.ensures.rest ∙ ap option_copied c.in-Some.is in
    let on = read_on c.loop.all.items c.in-Ok.word c.args.line.now c.loop.rest.now c.loop.invariant.read front in
    let items = c.in-Ok-push.ensures.items in
    record {
      read = subst (λ (all : List (Bor (List ℕ))). nows all ++ words c.in-Some.more.now ≡ words c.args.line.now) (sym items)
          (subst (λ (o : Option (List ℕ)). nows (c.loop.all.items ++ c.in-Ok.word ∷ []) ++ more_words o ≡ words c.args.line.now) more on);
      count = ap length items ∙ omega (arith, length-append c.loop.all.items (c.in-Ok.word ∷ []), c.loop.invariant.count);
    }

pub returns : goal.returns
returns c few all = too_many c.loop.all.items c.args.line.now c.loop.rest.now c.loop.invariant.read (omega arith) few
