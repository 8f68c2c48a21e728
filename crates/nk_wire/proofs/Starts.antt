-- A start is read the same way on either lane.
use Rattle.std.proofs.Common.{◌≡◌, ℕ, Result, Ok, Err, refl}
use Rattle.nk_base.specs.declared.status.Status.{Status}
use Rattle.nk_base.specs.declared.message.MainMsg.TheVariants as main
use Rattle.nk_base.specs.declared.message.BackMsg.TheVariants as back
use Rattle.nk_base.specs.Heads.{HeadParts}
use Rattle.nk_wire.specs.declared.error.DecodeError.{DecodeError}
use Rattle.nk_wire.specs.declared.start.Start.{Start}
use Rattle.nk_wire.specs.Layouts.{Layout, Number, Bytes, Headers, Done}
use Rattle.nk_wire.specs.Kinds.{start, main_start, back_start}
use Rattle.nk_wire.specs.Reading.{◌>>=◌, Place, number_at, text_at, headers_at, read}

-- a step whose value is made into another behind it
through : {A B C : Type 0} (r : Result A DecodeError) (f : A → Result C DecodeError) (g : A → Result B DecodeError) (h : B → Result C DecodeError) → ((x : A) → f x ≡ (g x >>= h)) → (r >>= f) ≡ ((r >>= g) >>= h)
through (Ok x) f g h same = same x
through (Err e) f g h same = refl

-- the fields are the same, and the message is made into another
mapped : {A B : Type 0} → (A → B) → Layout A → Layout B
mapped f (Number size in_range next) = Number size in_range (λ n. mapped f (next n))
mapped f (Bytes count good next) = Bytes count good (λ bytes. mapped f (next bytes))
mapped f (Headers count next) = Headers count (λ fields. mapped f (next fields))
mapped f (Done message) = Done (f message)

read-mapped : {A B : Type 0} (f : A → B) (layout : Layout A) (p : Place) → read (mapped f layout) p ≡ (read layout p >>= λ x. Ok (f x.0, x.1))
unfolding mapped
read-mapped f (Number size in_range next) p =
    through (number_at size in_range p) (λ n. read (mapped f (next n.0)) n.1) (λ n. read (next n.0) n.1) (λ x. Ok (f x.0, x.1)) (λ n. read-mapped f (next n.0) n.1)
read-mapped f (Bytes count good next) p =
    through (text_at count good p) (λ n. read (mapped f (next n.0)) n.1) (λ n. read (next n.0) n.1) (λ x. Ok (f x.0, x.1)) (λ n. read-mapped f (next n.0) n.1)
read-mapped f (Headers count next) p =
    through (headers_at count p) (λ n. read (mapped f (next n.0)) n.1) (λ n. read (next n.0) n.1) (λ x. Ok (f x.0, x.1)) (λ n. read-mapped f (next n.0) n.1)
read-mapped f (Done message) p = refl

abbrev pub opening : ℕ → Status → HeadParts → Start
opening hop status head = record { hop = hop; status = status; head = head }

pub read_main_start : (p : Place) → read main_start p ≡ (read (start (λ hop status head. opening hop status head)) p >>= λ x. Ok (main.Start x.0.hop x.0.status x.0.head, x.1))
unfolding mapped
read_main_start p = read-mapped (λ s. main.Start s.hop s.status s.head) (start (λ hop status head. opening hop status head)) p

pub read_back_start : (p : Place) → read back_start p ≡ (read (start (λ hop status head. opening hop status head)) p >>= λ x. Ok (back.Start x.0.hop x.0.status x.0.head, x.1))
unfolding mapped
read_back_start p = read-mapped (λ s. back.Start s.hop s.status s.head) (start (λ hop status head. opening hop status head)) p
