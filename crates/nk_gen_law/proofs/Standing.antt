-- The lines whose text is the same in each channel.
use Rattle.std.proofs.Common.{◌≡◌, ℕ, suc, zero, ◌<◌, ◌≤◌, ◌+◌, ◌*◌, true, List, [], ◌∷◌, ◌++◌, length, codes, refl, ap, arith}
use Rattle.std.specs.Fmt.{decimal}
use Rattle.std.proofs.lemmas.List.{length_push}
use Rattle.nk_plan.specs.declared.plan.Finish.TheVariants as finish
use Rattle.nk_plan.specs.declared.plan.Hop.TheVariants as plan
use Rattle.nk_plan.specs.declared.plan.ListenerKind.{ListenerKind}
use Rattle.nk_plan.specs.declared.plan.ListenerKind.TheVariants as listener
use Rattle.nk_plan.specs.declared.plan.Verdict.TheVariants as verdict
use Rattle.nk_script.specs.declared.draft.Draft.{Draft}
use Rattle.nk_script.specs.declared.line.HopLine.TheVariants as hop
use Rattle.nk_script.specs.declared.line.Keyword.TheVariants as key
use Rattle.nk_script.specs.declared.line.Line.TheVariants as line
use Rattle.nk_script.specs.declared.line.Place.{Place}
use Rattle.nk_script.specs.declared.line.Place.TheVariants as place
use Rattle.nk_script.specs.declared.reader.Reader.{Reader}
use Rattle.nk_script.specs.Responses.{ResponseParts}
use Rattle.nk_script.specs.Lines.{IsHopLine, IsListenerLine}
use Rattle.nk_script.specs.Order.{allows}
use Rattle.nk_script.specs.Texts.{words}
use Rattle.nk_script.specs.Draft.{start, after, new_response, plans_of}
use Rattle.nk_plan.specs.Accepted.{rounded_up}
use Rattle.nk_gen.specs.Made.{redirect_lines}
use Rattle.nk_gen_law.proofs.Cuts.{join}
use Rattle.nk_gen_law.proofs.Spellings.{decimal_read, spelled_302, spelled_200, spelled_4096, spelled_16, spelled_2}
use Rattle.nk_gen_law.proofs.States.{Reads, take_line, lt_test, le_test, reading, replying}

-- the first line
pub script_taken : (rest : List ℕ) → Reads (after start line.Script) rest → Reads start (codes "script 1\n" ++ rest)
script_taken rest next = take_line start (codes "script 1") rest key.Script line.Script refl refl refl (refl, refl) refl next

-- a channel begins
pub channel_taken : (r : Reader) (rest : List ℕ) → allows r.place key.Channel ≡ true → length (plans_of r) < 1024
    → Reads (after r line.Channel) rest → Reads r (codes "channel\n" ++ rest)
channel_taken r rest may few next =
    take_line r (codes "channel") rest key.Channel line.Channel refl refl may (refl, refl) (lt_test (length (plans_of r)) 1024 few) next

-- THE HOPS

abbrev with_redirect : Draft → Draft
with_redirect d = record d { hops = d.hops ++ plan.Redirect 302 verdict.Allow ∷ [] }

redirect_form : IsHopLine (words (codes "hop redirect 302 allow")) (line.Hop (hop.Redirect 302 verdict.Allow))
redirect_form = (
  codes "redirect" ∷ decimal 302 ∷ codes "allow" ∷ [],
  hop.Redirect 302 verdict.Allow,
  ap (λ (w : List ℕ). codes "hop" ∷ codes "redirect" ∷ w ∷ codes "allow" ∷ []) spelled_302,
  (decimal 302, refl, decimal_read 300 399 302 (omega arith) (omega arith)),
  refl,
)

redirect_taken : (r : Reader) (d : Draft) (a b c : ℕ) (rest : List ℕ) → length d.hops < 31
    → Reads (reading r place.Hop (with_redirect d) a b c) rest
    → Reads (reading r place.Hop d a b c) (codes "hop redirect 302 allow\n" ++ rest)
redirect_taken r d a b c rest few next =
    take_line (reading r place.Hop d a b c) (codes "hop redirect 302 allow") rest key.Hop (line.Hop (hop.Redirect 302 verdict.Allow))
    refl refl refl redirect_form (lt_test (length d.hops) 31 few) next

-- the redirects of a channel
pub redirects_read : (n h : ℕ) (r : Reader) (d : Draft) (a b c : ℕ) (rest : List ℕ)
    → length d.hops ≤ h → n + h ≤ 31 → length d.reactions ≤ 0
    → ((e : Draft) → length e.reactions ≤ 0 → Reads (reading r place.Hop e a b c) rest)
    → Reads (reading r place.Hop d a b c) (redirect_lines n ++ rest)
redirects_read zero h r d a b c rest few most fresh behind = behind d fresh
redirects_read (suc n) h r d a b c rest few most fresh behind =
    let more : length (with_redirect d).hops ≤ suc h = omega (arith, length_push d.hops (plan.Redirect 302 verdict.Allow)) in
    redirect_taken r d a b c (redirect_lines n ++ rest) (omega arith)
    (redirects_read n (suc h) r (with_redirect d) a b c rest more (omega arith) fresh behind)

response_form : IsHopLine (words (codes "hop response 200")) (line.Hop (hop.Response 200))
response_form = (
  codes "response" ∷ decimal 200 ∷ [],
  hop.Response 200,
  ap (λ (w : List ℕ). codes "hop" ∷ codes "response" ∷ w ∷ []) spelled_200,
  (decimal 200, refl, decimal_read 100 999 200 (omega arith) (omega arith)),
  refl,
)

-- the response begins
pub response_taken : (r : Reader) (d : Draft) (a b c : ℕ) (rest : List ℕ)
    → Reads (reading r place.Fields (replying d (new_response 200)) a b c) rest
    → Reads (reading r place.Hop d a b c) (codes "hop response 200\n" ++ rest)
response_taken r d a b c rest next =
    take_line (reading r place.Hop d a b c) (codes "hop response 200") rest key.Hop (line.Hop (hop.Response 200))
    refl refl refl response_form refl next

-- the body ends
pub end_taken : (r : Reader) (p : Place) (d : Draft) (s : ResponseParts) (a b c : ℕ) (rest : List ℕ) → allows p key.End ≡ true
    → Reads (reading r place.Trailers (replying d (record s { finish = finish.Good })) a b c) rest
    → Reads (reading r p (replying d s) a b c) (codes "end ok\n" ++ rest)
end_taken r p d s a b c rest may next =
    take_line (reading r p (replying d s) a b c) (codes "end ok") rest key.End (line.End finish.Good)
    refl refl may (codes "ok" ∷ [], finish.Good, refl, refl, refl) refl next

-- THE PIPE

abbrev pub pipe : ListenerKind
pipe = listener.Pipe 4096 16 2

pipe_words : words (codes "listener pipe 4096 16 2") ≡ codes "listener" ∷ codes "pipe" ∷ decimal 4096 ∷ decimal 16 ∷ decimal 2 ∷ []
pipe_words = λ i. codes "listener" ∷ codes "pipe" ∷ spelled_4096 i ∷ spelled_16 i ∷ spelled_2 i ∷ []

pipe_form : IsListenerLine (words (codes "listener pipe 4096 16 2")) (line.Listener pipe)
pipe_form =
    let segment = decimal_read 4 65536 4096 (omega arith) (omega arith) in
    let limit = decimal_read 1 1024 16 (omega arith) (omega arith) in
    let readers = decimal_read 1 8 2 (omega arith) (omega arith) in (
      codes "pipe" ∷ decimal 4096 ∷ decimal 16 ∷ decimal 2 ∷ [],
      pipe,
      pipe_words,
      (decimal 4096, decimal 16, decimal 2, refl, segment, limit, readers),
      refl,
    )

few_segments : (size : ℕ) → size ≤ 524288 → rounded_up (2 * size) 4096 ≤ 1000000
few_segments size h = omega arith

-- the listener is a pipe
pub pipe_taken : (r : Reader) (d : Draft) (s : ResponseParts) (a b c : ℕ) (rest : List ℕ)
    → s.size ≤ 524288 → c + 2 * s.size ≤ 134217728
    → Reads (reading r place.Retargetable (record (replying d s) { listener = pipe }) a b (c + 2 * s.size)) rest
    → Reads (reading r place.Trailers (replying d s) a b c) (codes "listener pipe 4096 16 2\n" ++ rest)
pipe_taken r d s a b c rest small read next =
    let within = join _ _ (le_test (rounded_up (2 * s.size) 4096) 1000000 (few_segments s.size small)) (le_test (c + 2 * s.size) 134217728 read) in
    take_line (reading r place.Trailers (replying d s) a b c) (codes "listener pipe 4096 16 2") rest key.Listener (line.Listener pipe)
    refl refl refl pipe_form within next
