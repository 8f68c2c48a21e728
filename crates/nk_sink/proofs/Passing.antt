-- One entry after the other goes into the pipe.
use Rattle.std.proofs.Common.{◌≡◌, ℕ, zero, suc, ◌+◌, ◌<◌, ◌≤◌, true, false, List, [], ◌∷◌, ◌++◌, length, take, drop, get_or, Option, Some, None, refl, sym, ap, subst, ◌∙◌, arith, take-add, drop-drop}
use Rattle.std.specs.Prelude.{slice_get}
use Rattle.std.proofs.lemmas.List.{length-append, length-drop, append-nil, take-append-le, take_all, take_at, drop-append-le, drop_all}
use Rattle.nk_base.specs.declared.status.Status.{Status}
use Rattle.nk_base.specs.declared.message.Entry.{Entry}
use Rattle.nk_base.specs.declared.message.Entry.TheVariants as entry
use Rattle.nk_pipe.specs.Pipe.{Pipe, Reader, room_for, room, written_to, without_writer, first_close}
use Rattle.nk_pipe.specs.Kept.{Kept, Stands, count}
use Rattle.nk_pump.specs.Shown.{Shown}
use Rattle.nk_sink.specs.Listener.{flowed}
use Rattle.nk_plan.specs.Readers.{body_of, stop_of}
use Rattle.nk_sink.specs.Fed.{pipe_in, piped_with, IsWithin, IsOpenAt, IsAt, room_in, Passes, MayPass}
use Rattle.nk_sink.proofs.Feeding.{body_append, stop_append}
use Rattle.nk_sink.proofs.Pouring.{stands_count, split_at, splits, pipe_of, piped_of, Poured, pours, within_body, flow_on, flow_out}

take_more : (n m : ℕ) (xs : List ℕ) → take (n + m) xs ≡ take n xs ++ take m (drop n xs)
take_more n m xs = take-add n m xs

drop_more : (n m : ℕ) (xs : List ℕ) → drop (n + m) xs ≡ drop m (drop n xs)
drop_more n m xs = sym (drop-drop m n xs)

drop_front : (xs ys : List ℕ) → drop (length xs) (xs ++ ys) ≡ ys
drop_front [] ys = refl
drop_front (x ∷ xs) ys = drop_front xs ys

get_below : (es : List Entry) (i : ℕ) (e : Entry) → slice_get es i ≡ Some e → i < length es
get_below [] i e get = absurd (cc (get))
get_below (x ∷ es) zero e get = omega arith
get_below (x ∷ es) (suc i) e get = omega (arith, get_below es i e get)

pub within_zero : (es : List Entry) → IsWithin es 0
within_zero [] = refl
within_zero (entry.Start code status ∷ es) = refl
within_zero (entry.Bytes o piece ∷ es) = omega arith
within_zero (entry.Stop status trailers ∷ es) = refl

pub open_none : (es : List Entry) (closed : Option Status) → closed ≡ None → IsOpenAt es closed
open_none [] closed is = is
open_none (entry.Start code status ∷ es) closed is = is
open_none (entry.Bytes o piece ∷ es) closed is = is
open_none (entry.Stop status trailers ∷ es) closed is = tt

-- an entry that is whole in the pipe
moves : (es : List Entry) (e : Entry) (k : Kept) (place next : ℕ) → next ≡ suc place → slice_get es place ≡ Some e → stop_of (e ∷ []) ≡ None → stop_of (take place es) ≡ None → Stands k (pipe_in (body_of es) k) → k.closed ≡ None
    → count k ≡ length (body_of (take place es)) + length (body_of (e ∷ [])) → IsAt es k next 0
moves es e k place next is get none_stops before stands opens counted =
    let front : take next es ≡ take place es ++ e ∷ [] = ap (λ n. take n es) is ∙ (split_at es place e get).1 in
    record {
      stands = stands;
      below = omega (arith, is, get_below es place e get);
      before = ap stop_of front ∙ stop_append (take place es) (e ∷ []) before ∙ none_stops;
      counted = omega (arith, counted, ap (λ xs. length (body_of xs)) front, ap (λ (xs : List ℕ). length xs) (body_append (take place es) (e ∷ []) before), length-append (body_of (take place es)) (body_of (e ∷ [])));
      within = within_zero (drop next es);
      opens = open_none (drop next es) k.closed opens;
    }

-- WHAT FLOWS

-- the listener once its pipe has some more bytes
piped_after : (es : List Entry) (k k' : Kept) (n : ℕ) (x y : List ℕ) (pumps : List Shown) → Poured (body_of es) k k' n → k.closed ≡ None → take n (drop (count k) (body_of es)) ≡ x → drop n (drop (count k) (body_of es)) ≡ y
    → piped_with es k' pumps ≡ piped_of (pipe_of k.segment k.limit (take (count k) (body_of es) ++ x) k.readers None) y (stop_of es) pumps
piped_after es k k' n x y pumps poured opens taken left =
    let written : take (count k + n) (body_of es) ≡ take (count k) (body_of es) ++ x = take_more (count k) n (body_of es) ∙ ap (λ xs. take (count k) (body_of es) ++ xs) taken in
    let kept : drop (count k') (body_of es) ≡ y = ap (λ m. drop m (body_of es)) poured.counted ∙ drop_more (count k) n (body_of es) ∙ left in
    ap (λ (q : Pipe). piped_of q (drop (count k') (body_of es)) (stop_of es) pumps) poured.is
    ∙ ap (λ xs. piped_of (pipe_of k.segment k.limit xs k.readers k.closed) (drop (count k') (body_of es)) (stop_of es) pumps) written
    ∙ ap (λ o. piped_of (pipe_of k.segment k.limit (take (count k) (body_of es) ++ x) k.readers o) (drop (count k') (body_of es)) (stop_of es) pumps) opens
    ∙ ap (λ xs. piped_of (pipe_of k.segment k.limit (take (count k) (body_of es) ++ x) k.readers None) xs (stop_of es) pumps) kept

piped_before : (es : List Entry) (k : Kept) (kept : List ℕ) (pumps : List Shown) → k.closed ≡ None → drop (count k) (body_of es) ≡ kept
    → piped_with es k pumps ≡ piped_of (pipe_of k.segment k.limit (take (count k) (body_of es)) k.readers None) kept (stop_of es) pumps
piped_before es k kept pumps opens is =
    ap (λ o. piped_of (pipe_of k.segment k.limit (take (count k) (body_of es)) k.readers o) (drop (count k) (body_of es)) (stop_of es) pumps) opens
    ∙ ap (λ xs. piped_of (pipe_of k.segment k.limit (take (count k) (body_of es)) k.readers None) xs (stop_of es) pumps) is

room_is : (body : List ℕ) (k : Kept) → Stands k (pipe_in body k) → room (pipe_of k.segment k.limit (take (count k) body) k.readers None) ≡ room_in k
room_is body k stands = ap (λ m. room_for k.segment k.limit k.readers m) (within_body body k stands)

-- the bytes of the entry at the place, and those behind it
record Here (es : List Entry) (k : Kept) (place offset : ℕ) (piece : List ℕ) : Type 0 where
  rest : List ℕ
  is : drop (count k) (body_of es) ≡ drop offset piece ++ rest

here : (es : List Entry) (k : Kept) (place offset o : ℕ) (piece : List ℕ) → slice_get es place ≡ Some (entry.Bytes o piece) → IsAt es k place offset → offset ≤ length piece → Here es k place offset piece
here es k place offset o piece get is fits =
    let split = split_at es place (entry.Bytes o piece) get in
    record {
      rest = body_of (drop (suc place) es);
      is = (splits es k place offset is.before is.counted).kept ∙ ap (λ xs. drop offset (body_of xs)) split.0 ∙ drop-append-le offset piece (body_of (drop (suc place) es)) fits;
    }

-- the entry has passed, and the next may
on_bytes : (es : List Entry) (k k' : Kept) (place next offset offset' o : ℕ) (piece : List ℕ) → next ≡ suc place → slice_get es place ≡ Some (entry.Bytes o piece) → IsAt es k place offset → offset ≤ length piece → k.closed ≡ None
    → ((p : Pipe) → Stands k p → Stands k' (written_to p.closed (drop offset piece) p)) → length (drop offset piece) ≤ room_in k → offset' ≡ 0
    → IsAt es k' next offset' × ((pumps : List Shown) → flowed (piped_with es k' pumps) ≡ flowed (piped_with es k pumps))
on_bytes es k k' place next offset offset' o piece step get is fits opens each all none =
    let at = here es k place offset o piece get is fits in
    let x : List ℕ = drop offset piece in
    let first : take (length (drop offset piece)) (drop (count k) (body_of es)) ≡ drop offset piece = ap (λ xs. take (length (drop offset piece)) xs) at.is ∙ take_at (drop offset piece) at.rest (length (drop offset piece)) refl in
    let left : drop (length (drop offset piece)) (drop (count k) (body_of es)) ≡ at.rest = ap (λ xs. drop (length (drop offset piece)) xs) at.is ∙ drop_front (drop offset piece) at.rest in
    let poured : Poured (body_of es) k k' (length (drop offset piece)) = pours (body_of es) (drop offset piece) k k' (length (drop offset piece)) is.stands opens each (take_all (room_in k) (drop offset piece) all ∙ sym first) (omega (arith, ap (λ (xs : List ℕ). length xs) at.is, length-append (drop offset piece) at.rest)) in
    let all_of : body_of (entry.Bytes o piece ∷ []) ≡ piece = append-nil piece in (
      subst (λ n. IsAt es k' next n) (sym none) (moves es (entry.Bytes o piece) k' place next step get refl is.before poured.stands (ap (λ (q : Pipe). q.closed) poured.is ∙ opens)
          (omega (arith, poured.counted, is.counted, length-drop offset piece, fits, ap (λ (xs : List ℕ). length xs) all_of))),
      λ pumps.
          ap flowed (piped_after es k k' (length (drop offset piece)) (drop offset piece) at.rest pumps poured opens first left)
          ∙ flow_on k.segment k.limit (take (count k) (body_of es)) (drop offset piece) at.rest k.readers (stop_of es) pumps (omega (arith, all, room_is (body_of es) k is.stands))
          ∙ sym (ap flowed (piped_before es k (drop offset piece ++ at.rest) pumps opens at.is)),
    )

-- only some of it has passed: nothing more fits
out_bytes : (es : List Entry) (k k' : Kept) (place offset offset' o : ℕ) (piece : List ℕ) → slice_get es place ≡ Some (entry.Bytes o piece) → IsAt es k place offset → offset ≤ length piece → k.closed ≡ None
    → ((p : Pipe) → Stands k p → Stands k' (written_to p.closed (drop offset piece) p)) → room_in k < length (drop offset piece) → offset' ≡ offset + room_in k
    → IsAt es k' place offset' × ((pumps : List Shown) → piped_with es k' pumps ≡ flowed (piped_with es k pumps))
out_bytes es k k' place offset offset' o piece get is fits opens each some moved =
    let at = here es k place offset o piece get is fits in
    let some_left : room_in k < length (drop (count k) (body_of es)) = omega (arith, some, ap (λ (xs : List ℕ). length xs) at.is, length-append (drop offset piece) at.rest) in
    let first : take (room_in k) (drop offset piece) ≡ take (room_in k) (drop (count k) (body_of es)) = sym (ap (λ xs. take (room_in k) xs) at.is ∙ take-append-le (room_in k) (drop offset piece) at.rest (omega (arith, some))) in
    let poured : Poured (body_of es) k k' (room_in k) = pours (body_of es) (drop offset piece) k k' (room_in k) is.stands opens each first (omega (arith, some_left)) in
    let split = split_at es place (entry.Bytes o piece) get in
    let room : room (pipe_of k.segment k.limit (take (count k) (body_of es)) k.readers None) ≡ room_in k = room_is (body_of es) k is.stands in (
      record {
        stands = poured.stands;
        below = is.below;
        before = is.before;
        counted = omega (arith, poured.counted, is.counted, moved);
        within = subst (λ xs. IsWithin xs offset') (sym split.0) (omega (arith, moved, some, length-drop offset piece));
        opens = open_none (drop place es) k'.closed (ap (λ (q : Pipe). q.closed) poured.is ∙ opens);
      },
      λ pumps.
          piped_after es k k' (room_in k) (take (room_in k) (drop (count k) (body_of es))) (drop (room_in k) (drop (count k) (body_of es))) pumps poured opens refl refl
          ∙ ap (λ m. piped_of (pipe_of k.segment k.limit (take (count k) (body_of es) ++ take m (drop (count k) (body_of es))) k.readers None) (drop m (drop (count k) (body_of es))) (stop_of es) pumps) (sym room)
          ∙ flow_out k.segment k.limit (take (count k) (body_of es)) (drop (count k) (body_of es)) k.readers (stop_of es) pumps (omega (arith, some_left, room))
          ∙ sym (ap flowed (piped_before es k (drop (count k) (body_of es)) pumps opens refl)),
    )

-- the start passes
on_start : (es : List Entry) (k : Kept) (place next offset code : ℕ) (status : Status) → next ≡ suc place → slice_get es place ≡ Some (entry.Start code status) → IsAt es k place offset → IsAt es k next offset
on_start es k place next offset code status step get is =
    let split = split_at es place (entry.Start code status) get in
    let zero : offset ≡ 0 = subst (λ xs. IsWithin xs offset) split.0 is.within in
    let opens : k.closed ≡ None = subst (λ xs. IsOpenAt xs k.closed) split.0 is.opens in
    subst (λ n. IsAt es k next n) (sym zero) (moves es (entry.Start code status) k place next step get refl is.before is.stands opens (omega (arith, is.counted, zero)))

-- THE STOP, AND THE END

no_more : (n : ℕ) → drop n (let xs : List ℕ = [] in xs) ≡ []
no_more n = drop_all n (let xs : List ℕ = [] in xs) (omega arith)

nothing_more : (n : ℕ) (written : List ℕ) → written ++ take n (let xs : List ℕ = [] in xs) ≡ written
nothing_more n written = ap (λ xs. written ++ xs) (take_all n (let xs : List ℕ = [] in xs) (omega arith)) ∙ append-nil written

flow_stop : (segment limit : ℕ) (written : List ℕ) (readers : List Reader) (closed : Option Status) (s : Status) (pumps : List Shown)
    → piped_of (pipe_of segment limit written readers (first_close closed s)) [] (Some s) pumps ≡ flowed (piped_of (pipe_of segment limit written readers closed) [] (Some s) pumps)
flow_stop segment limit written readers (Some t) s pumps = refl
flow_stop segment limit written readers None s pumps =
    rw (no_more (room (pipe_of segment limit written readers None)), nothing_more (room (pipe_of segment limit written readers None)) written) refl

flow_none : (segment limit : ℕ) (written : List ℕ) (readers : List Reader) (pumps : List Shown)
    → piped_of (pipe_of segment limit written readers None) [] None pumps ≡ flowed (piped_of (pipe_of segment limit written readers None) [] None pumps)
flow_none segment limit written readers pumps =
    rw (no_more (room (pipe_of segment limit written readers None)), nothing_more (room (pipe_of segment limit written readers None)) written) refl

out_stop : (es : List Entry) (k k' : Kept) (place offset offset' : ℕ) (s : Status) (trailers : _) → slice_get es place ≡ Some (entry.Stop s trailers) → IsAt es k place offset → ((p : Pipe) → Stands k p → Stands k' (without_writer s p)) → offset' ≡ offset
    → IsAt es k' place offset' × ((pumps : List Shown) → piped_with es k' pumps ≡ flowed (piped_with es k pumps))
out_stop es k k' place offset offset' s trailers get is each same =
    let split = split_at es place (entry.Stop s trailers) get in
    let parts = splits es k place offset is.before is.counted in
    let none : drop (count k) (body_of es) ≡ [] = parts.kept ∙ ap (λ xs. drop offset (body_of xs)) split.0 ∙ no_more offset in
    let stop : stop_of es ≡ Some s = parts.stop ∙ ap stop_of split.0 in
    let after = each (pipe_in (body_of es) k) is.stands in
    let counted : count k' ≡ count k = sym (stands_count k' _ after) ∙ within_body (body_of es) k is.stands in
    let now : pipe_in (body_of es) k' ≡ pipe_of k.segment k.limit (take (count k) (body_of es)) k.readers (first_close k.closed s) =
    ap (λ (q : Pipe). pipe_of q.segment q.limit (take (count k') (body_of es)) q.readers q.closed) (sym after.2)
    ∙ ap (λ m. pipe_of k.segment k.limit (take m (body_of es)) k.readers (first_close k.closed s)) counted in (
      record {
        stands = subst (λ (q : Pipe). Stands k' q) (sym now) after;
        below = is.below;
        before = is.before;
        counted = omega (arith, counted, is.counted, same);
        within = subst (λ n. IsWithin (drop place es) n) (sym same) is.within;
        opens = subst (λ xs. IsOpenAt xs k'.closed) (sym split.0) tt;
      },
      λ pumps.
          ap (λ (q : Pipe). piped_of q (drop (count k') (body_of es)) (stop_of es) pumps) now
          ∙ ap (λ m. piped_of (pipe_of k.segment k.limit (take (count k) (body_of es)) k.readers (first_close k.closed s)) (drop m (body_of es)) (stop_of es) pumps) counted
          ∙ ap (λ xs. piped_of (pipe_of k.segment k.limit (take (count k) (body_of es)) k.readers (first_close k.closed s)) xs (stop_of es) pumps) none
          ∙ ap (λ o. piped_of (pipe_of k.segment k.limit (take (count k) (body_of es)) k.readers (first_close k.closed s)) [] o pumps) stop
          ∙ flow_stop k.segment k.limit (take (count k) (body_of es)) k.readers k.closed s pumps
          ∙ sym (ap (λ xs. flowed (piped_of (pipe_of k.segment k.limit (take (count k) (body_of es)) k.readers k.closed) xs (stop_of es) pumps)) none
          ∙ ap (λ o. flowed (piped_of (pipe_of k.segment k.limit (take (count k) (body_of es)) k.readers k.closed) [] o pumps)) stop),
    )

pub at_end : (es : List Entry) (k : Kept) (place offset : ℕ) → length es ≤ place → IsAt es k place offset → (pumps : List Shown) → piped_with es k pumps ≡ flowed (piped_with es k pumps)
at_end es k place offset past is pumps =
    let end : drop place es ≡ [] = drop_all place es past in
    let parts = splits es k place offset is.before is.counted in
    let none : drop (count k) (body_of es) ≡ [] = parts.kept ∙ ap (λ xs. drop offset (body_of xs)) end ∙ no_more offset in
    let stop : stop_of es ≡ None = parts.stop ∙ ap stop_of end in
    let opens : k.closed ≡ None = subst (λ xs. IsOpenAt xs k.closed) end is.opens in
    let all : piped_with es k pumps ≡ piped_of (pipe_of k.segment k.limit (take (count k) (body_of es)) k.readers None) [] None pumps =
    piped_before es k [] pumps opens none ∙ ap (λ o. piped_of (pipe_of k.segment k.limit (take (count k) (body_of es)) k.readers None) [] o pumps) stop in
    all ∙ flow_none k.segment k.limit (take (count k) (body_of es)) k.readers pumps ∙ sym (ap flowed all)

-- ONE STEP

pub may_pass : (es : List Entry) (k : Kept) (place offset : ℕ) (e : Entry) → slice_get es place ≡ Some e → IsAt es k place offset → MayPass e k offset
may_pass es k place offset (entry.Start code status) get is = tt
may_pass es k place offset (entry.Bytes o piece) get is =
    let split = split_at es place (entry.Bytes o piece) get in
    (subst (λ xs. IsWithin xs offset) split.0 is.within, subst (λ xs. IsOpenAt xs k.closed) split.0 is.opens)
may_pass es k place offset (entry.Stop s trailers) get is = tt

pub passes_on : (es : List Entry) (k k' : Kept) (place next offset offset' : ℕ) (e : Entry) → next ≡ suc place → slice_get es place ≡ Some e → IsAt es k place offset → Passes e k offset k' offset' true
    → IsAt es k' next offset' × ((pumps : List Shown) → flowed (piped_with es k' pumps) ≡ flowed (piped_with es k pumps))
passes_on es k k' place next offset offset' (entry.Start code status) step get is passes = (
  subst (λ n. IsAt es k' next n) (sym passes.1) (subst (λ (q : Kept). IsAt es q next offset) (sym passes.0) (on_start es k place next offset code status step get is)),
  λ pumps. ap (λ (q : Kept). flowed (piped_with es q pumps)) passes.0,
)
passes_on es k k' place next offset offset' (entry.Bytes o piece) step get is passes =
    let may = may_pass es k place offset (entry.Bytes o piece) get is in
    on_bytes es k k' place next offset offset' o piece step get is may.0 may.1 passes.0 passes.1.0 passes.1.1
passes_on es k k' place next offset offset' (entry.Stop s trailers) step get is passes = absurd (cc (passes.2))

pub passes_out : (es : List Entry) (k k' : Kept) (place offset offset' : ℕ) (e : Entry) → slice_get es place ≡ Some e → IsAt es k place offset → Passes e k offset k' offset' false
    → IsAt es k' place offset' × ((pumps : List Shown) → piped_with es k' pumps ≡ flowed (piped_with es k pumps))
passes_out es k k' place offset offset' (entry.Start code status) get is passes = absurd (cc (passes.2))
passes_out es k k' place offset offset' (entry.Bytes o piece) get is passes =
    let may = may_pass es k place offset (entry.Bytes o piece) get is in
    out_bytes es k k' place offset offset' o piece get is may.0 may.1 passes.0 passes.1.0 passes.1.1
passes_out es k k' place offset offset' (entry.Stop s trailers) get is passes =
    out_stop es k k' place offset offset' s trailers get is passes.0 passes.1

-- what a read of the list gives
pub read_get : (es : List Entry) (i : ℕ) (e : Entry) → i < length es → e ≡ get_or es i e → slice_get es i ≡ Some e
read_get [] i e below is = absurd (omega (arith, below))
read_get (x ∷ es) zero e below is = let same : e ≡ x = is in rw same refl
read_get (x ∷ es) (suc i) e below is = read_get es i e (omega (arith, below)) is
