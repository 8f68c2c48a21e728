-- An entry: the body grows behind the earlier entries, and the pipe stays as it has to be.
use Rattle.std.proofs.Common.{◌≡◌, ℕ, List, [], ◌∷◌, ◌++◌, Option, Some, None, refl, sym, ap, ◌∙◌}
use Rattle.std.proofs.lemmas.List.{append_assoc, append-nil}
use Rattle.nk_base.specs.declared.status.Status.{Status}
use Rattle.nk_base.specs.declared.message.Entry.{Entry}
use Rattle.nk_base.specs.declared.message.Entry.TheVariants as entry
use Rattle.nk_sink.specs.Listener.{Piped, fed}
use Rattle.nk_plan.specs.Readers.{body_of, stop_of}
use Rattle.nk_sink.specs.Held.{closed_of, MayFlow, IsPiped}
use Rattle.nk_sink.proofs.Flowing.{flows}

-- behind a stop nothing counts
pub body_behind : (es more : List Entry) (s : Status) → stop_of es ≡ Some s → body_of (es ++ more) ≡ body_of es
body_behind [] more s is = absurd (cc)
body_behind (entry.Start code status ∷ es) more s is = body_behind es more s is
body_behind (entry.Bytes offset piece ∷ es) more s is = ap (λ xs. piece ++ xs) (body_behind es more s is)
body_behind (entry.Stop status trailers ∷ es) more s is = refl

pub stop_behind : (es more : List Entry) (s : Status) → stop_of es ≡ Some s → stop_of (es ++ more) ≡ stop_of es
stop_behind [] more s is = absurd (cc)
stop_behind (entry.Start code status ∷ es) more s is = stop_behind es more s is
stop_behind (entry.Bytes offset piece ∷ es) more s is = stop_behind es more s is
stop_behind (entry.Stop status trailers ∷ es) more s is = refl

-- before a stop all counts
pub body_append : (es more : List Entry) → stop_of es ≡ None → body_of (es ++ more) ≡ body_of es ++ body_of more
body_append [] more is = refl
body_append (entry.Start code status ∷ es) more is = body_append es more is
body_append (entry.Bytes offset piece ∷ es) more is =
    ap (λ xs. piece ++ xs) (body_append es more is) ∙ sym (append_assoc piece (body_of es) (body_of more))
body_append (entry.Stop status trailers ∷ es) more is = absurd (cc (is))

pub stop_append : (es more : List Entry) → stop_of es ≡ None → stop_of (es ++ more) ≡ stop_of more
stop_append [] more is = refl
stop_append (entry.Start code status ∷ es) more is = stop_append es more is
stop_append (entry.Bytes offset piece ∷ es) more is = stop_append es more is
stop_append (entry.Stop status trailers ∷ es) more is = absurd (cc (is))

closed_none : (kept : List ℕ) → closed_of kept None ≡ None
closed_none [] = refl
closed_none (b ∷ bs) = refl

may_open : (o : Option Status) (kept : List ℕ) (stop : Option Status) → o ≡ None → MayFlow o kept stop
may_open None kept stop is = tt
may_open (Some s) kept stop is = absurd (cc (is))

fed_by : (es : List Entry) (e : Entry) (w : Piped) (o : Option Status) → w.stop ≡ o → IsPiped (body_of es) (stop_of es) w → IsPiped (body_of (es ++ e ∷ [])) (stop_of (es ++ e ∷ [])) (fed o e w)
fed_by es e w (Some s) at is =
    let stop : stop_of es ≡ Some s = sym is.poured.stop ∙ at in
    rw (body_behind es (e ∷ []) s stop, stop_behind es (e ∷ []) s stop) is
fed_by es (entry.Start code status) w None at is =
    let none : stop_of es ≡ None = sym is.poured.stop ∙ at in
    let body : body_of (es ++ entry.Start code status ∷ []) ≡ body_of es = body_append es (entry.Start code status ∷ []) none ∙ append-nil (body_of es) in
    let stop : stop_of (es ++ entry.Start code status ∷ []) ≡ stop_of es = stop_append es (entry.Start code status ∷ []) none ∙ sym none in
    rw (body, stop) is
fed_by es (entry.Bytes offset piece) w None at is =
    let none : stop_of es ≡ None = sym is.poured.stop ∙ at in
    let body : body_of (es ++ entry.Bytes offset piece ∷ []) ≡ body_of es ++ piece = body_append es (entry.Bytes offset piece ∷ []) none ∙ ap (λ xs. body_of es ++ xs) (append-nil piece) in
    let stop : stop_of (es ++ entry.Bytes offset piece ∷ []) ≡ stop_of es = stop_append es (entry.Bytes offset piece ∷ []) none ∙ sym none in
    let opens : w.pipe.closed ≡ None = is.closed ∙ ap (λ o. closed_of w.kept o) at ∙ closed_none w.kept in
    rw (body, stop) (flows (body_of es ++ piece) (stop_of es) (record w { kept = w.kept ++ piece }) (record {
      segment = is.poured.segment;
      limit = is.poured.limit;
      some = is.poured.some;
      all = sym (append_assoc w.pipe.written w.kept piece) ∙ ap (λ xs. xs ++ piece) is.poured.all;
      stop = is.poured.stop;
      may = may_open w.pipe.closed (w.kept ++ piece) w.stop opens;
      read = is.poured.read;
    }))
fed_by es (entry.Stop status trailers) w None at is =
    let none : stop_of es ≡ None = sym is.poured.stop ∙ at in
    let body : body_of (es ++ entry.Stop status trailers ∷ []) ≡ body_of es = body_append es (entry.Stop status trailers ∷ []) none ∙ append-nil (body_of es) in
    let stop : stop_of (es ++ entry.Stop status trailers ∷ []) ≡ Some status = stop_append es (entry.Stop status trailers ∷ []) none in
    let opens : w.pipe.closed ≡ None = is.closed ∙ ap (λ o. closed_of w.kept o) at ∙ closed_none w.kept in
    rw (body, stop) (flows (body_of es) (Some status) (record w { stop = Some status }) (record {
      segment = is.poured.segment;
      limit = is.poured.limit;
      some = is.poured.some;
      all = is.poured.all;
      stop = refl;
      may = may_open w.pipe.closed w.kept (Some status) opens;
      read = is.poured.read;
    }))

pub fed_is : (es : List Entry) (e : Entry) (w : Piped) → IsPiped (body_of es) (stop_of es) w → IsPiped (body_of (es ++ e ∷ [])) (stop_of (es ++ e ∷ [])) (fed w.stop e w)
fed_is es e w is = fed_by es e w w.stop refl is
