-- Lemmas on the facts of the type and the value, as the writer changes them.
use Rattle.std.proofs.Common.{◌≡◌, ℕ, ◌+◌, ◌-◌, ◌≤◌, true, List, [], ◌∷◌, ◌++◌, length, Option, arith}
use Rattle.nk_base.specs.declared.status.Status.{Status}
use Rattle.nk_segments.specs.Places.{Place}
use Rattle.nk_segments.specs.Segments.{Segment, Segments, with_bytes, changed_at, AreSegments}
use Rattle.nk_pipe.specs.declared.cursor.Cursor.{Cursor}
use Rattle.nk_pipe.specs.declared.reader.Reader.{Reader as Tracked}
use Rattle.nk_pipe.specs.Pipe.{has_open}
use Rattle.nk_pipe.specs.Laid.{all_seen, kept_bytes, past, cursor_in, reaching, all_reaching, open_count, IsPipe}
use Rattle.nk_pipe.proofs.CursorLemmas.{IsAt}
use Rattle.nk_pipe.proofs.ReaderLemmas.{seen_reaching}
use Rattle.nk_pipe.proofs.PipeLemmas.{past_is}
use Rattle.nk_pipe.proofs.WriteLemmas.{put, kept_put, added, kept_added, length_reaching, length-joined_added}

-- bytes are put where the writer stands
pub record Puts (size limit written ahead : ℕ) (segments : Segments) (place : Place) (offset n : ℕ) (new : List ℕ) (readers : List Tracked) (closed : Option Status) : Type 0 where
  pub pipe : IsPipe size limit (record { size = segments.size; segments = changed_at (with_bytes offset new) segments.segments place }) readers (cursor_in size (changed_at (with_bytes offset new) segments.segments place) place (offset + n)) (written + n) (ahead - n) closed
  pub past : past (changed_at (with_bytes offset new) segments.segments place) (written + n) (ahead - n) ≡ past segments.segments written ahead
  pub bytes : kept_bytes (changed_at (with_bytes offset new) segments.segments place) (ahead - n) ≡ kept_bytes segments.segments ahead ++ new

pub puts : (size limit written ahead : ℕ) (segments : Segments) (place : Place) (offset n : ℕ) (new : List ℕ) (readers : List Tracked) (writer : Cursor) (closed : Option Status) → IsPipe size limit segments readers writer written ahead closed
    → AreSegments segments.size (changed_at (with_bytes offset new) segments.segments place) → has_open (all_seen readers) ≡ true → IsAt size (past segments.segments written ahead) segments.segments written place offset → offset + n ≤ size → length new ≡ n → n ≤ ahead
    → Puts size limit written ahead segments place offset n new readers closed
puts size limit written ahead segments place offset n new readers writer closed is told opens at fits long room =
    let laid = is.laid opens in
    let are = rw is.sized at told in
    let from = past segments.segments written ahead in
    let after = put size (past segments.segments written ahead) written ahead segments.segments place offset n new readers writer is.are are fits long room at laid in
    let same = past_is size (past segments.segments written ahead) (written + n) (ahead - n) (changed_at (with_bytes offset new) segments.segments place) readers _ after in
    record {
      pipe = record {
        least = is.least;
        most = is.most;
        least_limit = is.least_limit;
        most_limit = is.most_limit;
        sized = is.sized;
        are = are;
        few = is.few;
        fits = omega (arith, after.ends, after.starts);
        laid = λ _. rw same after;
        told = is.told;
      };
      past = same;
      bytes = kept_put size (past segments.segments written ahead) written ahead segments.segments place offset n new readers writer is.are fits long room at laid;
    }

-- a segment is added behind the last one
pub record Adds (size limit written ahead : ℕ) (segments : Segments) (segments' : List (Place × Segment)) (place : Place) (readers : List Tracked) (writer : Cursor) (closed : Option Status) : Type 0 where
  pub pipe : IsPipe size limit (record { size = segments.size; segments = segments' }) (all_reaching place readers) (reaching place writer) written (ahead + size) closed
  pub past : past segments' written (ahead + size) ≡ past segments.segments written ahead
  pub bytes : kept_bytes segments' (ahead + size) ≡ kept_bytes segments.segments ahead

pub adds : (size limit written ahead : ℕ) (segments : Segments) (place : Place) (s : Segment) (readers : List Tracked) (writer : Cursor) (closed : Option Status) → IsPipe size limit segments readers writer written ahead closed
    → has_open (all_seen readers) ≡ true → AreSegments segments.size (segments.segments ++ (place, s) ∷ []) → length s.bytes ≡ size → s.readers ≡ open_count (all_seen readers)
    → Adds size limit written ahead segments (segments.segments ++ (place, s) ∷ []) place readers writer closed
adds size limit written ahead segments place s readers writer closed is opens are sized counts =
    let laid = is.laid opens in
    let after = added size (past segments.segments written ahead) written ahead segments.segments place s readers writer (omega (arith, is.least)) is.are sized counts laid in
    let same = past_is size (past segments.segments written ahead) written (ahead + size) (segments.segments ++ (place, s) ∷ []) (all_reaching place readers) (reaching place writer) after in
    record {
      pipe = record {
        least = is.least;
        most = is.most;
        least_limit = is.least_limit;
        most_limit = is.most_limit;
        sized = is.sized;
        are = rw is.sized at are;
        few = omega (arith, is.few, length_reaching place readers);
        fits = omega (arith, after.ends, after.starts);
        laid = λ _. rw same after;
        told = λ none. rw (seen_reaching place readers) (is.told none);
      };
      past = same;
      bytes = kept_added ahead size segments.segments (segments.segments ++ (place, s) ∷ []) s.bytes sized (omega (arith, laid.ends, laid.starts)) (length-joined_added segments.segments place s);
    }
