-- What a contract sees of a sink book, and what its calls do. This project's own.
use Rattle.std.specs.Prelude.{ℕ, ◌≡◌, ◌<◌, ◌⊎◌, true, false, List, [], ◌∷◌, ◌++◌, length}
use Rattle.nk_base.specs.declared.message.Entry.{Entry}
use Rattle.nk_sink.specs.Listener.{Listener, entered}
use Rattle.nk_sink.specs.Reached.{ListenerView}

-- a book: its channel, what was taken from the lane in all, what the end knows of and has not given, how much can be taken
-- in all, and the listener. Which lane it is has no value.
pub record Book : Type 0 where
  pub number : ℕ
  pub taken : List Entry
  pub left : List Entry
  pub capacity : ℕ
  pub listener : ListenerView

abbrev pub new_book : ℕ → List Entry → ℕ → ListenerView → Book
new_book number left capacity listener = record { number = number; taken = []; left = left; capacity = capacity; listener = listener }

-- a listener that met no want of memory
abbrev pub working : Listener → ListenerView
working l = record { listener = l; failed = false }

-- the listener was shown what was taken
abbrev pub HasSeen : Book → Type 0
HasSeen b = b.listener.listener.entries ≡ b.taken

-- there is nothing to take: no entry is known, or all were taken that can be sent
abbrev pub IsBare : Book → Type 0
IsBare b = (b.left ≡ []) ⊎ (length b.taken ≡ b.capacity)

-- an entry is known, and can be taken
abbrev pub IsWaiting : Book → Type 0
IsWaiting b = (0 < length b.left) × (length b.taken < b.capacity)

-- nothing was taken
pub record HasLeft (a b : Book) : Type 0 where
  pub number : b.number ≡ a.number
  pub taken : b.taken ≡ a.taken
  pub capacity : b.capacity ≡ a.capacity

-- one entry was taken, and the listener was shown it
pub record HasDelivered (a b : Book) : Type 0 where
  pub number : b.number ≡ a.number
  pub entry : Entry
  pub taken : b.taken ≡ a.taken ++ entry ∷ []
  pub capacity : b.capacity ≡ a.capacity
  pub works : a.listener.failed ≡ false
  pub listener : b.listener ≡ working (entered entry a.listener.listener)

-- the listener met want of memory, and was shown nothing
pub record IsBroken (l m : ListenerView) : Type 0 where
  pub failed : m.failed ≡ true
  pub entries : m.listener.entries ≡ l.listener.entries
  pub kind : m.listener.kind ≡ l.listener.kind

-- the listener is as before, or met want of memory
abbrev pub MayBreak : ListenerView → ListenerView → Type 0
MayBreak l m = (m ≡ l) ⊎ IsBroken l m
