-- What a `PlainQueue` holds: the state of the queue machine, and room. This project's own.
use Rattle.std.specs.Prelude.{ℕ, ◌-◌}
use Rattle.std.specs.VecDeque.{deque_len, deque_capacity}
use Rattle.nk_base.specs.Queue.{Queue}
use Rattle.nk_queue.specs.declared.laws.plain.PlainQueue.{PlainQueue}

module _ {E : Type 0} where
  abbrev pub state_of : PlainQueue E → Queue E
  state_of s = record {
    waiting = s.waiting.items;
    count = s.count;
    suspended = s.suspended;
    forced = s.forced;
    flushing = s.flushing;
    posted = s.posted;
    data_target = s.data_target;
  }

  -- for how many events there is room
  abbrev pub room_of : PlainQueue E → ℕ
  room_of s = deque_capacity s.waiting - deque_len s.waiting
