-- What a sink book is made of, as a contract sees it, and what its type keeps. No public clause cites this module.
use Rattle.nk_lane.specs.Ends.{taken_from, left_known, take_capacity}
use Rattle.nk_sink_cell.specs.Sunk.{Book, HasSeen}
use Rattle.nk_sink_cell.specs.declared.book.SinkBook.TheInside.{Inside}

abbrev pub book_of : Inside → Book
book_of b = record {
  number = b.number;
  taken = taken_from b.end;
  left = left_known b.end;
  capacity = take_capacity b.end;
  listener = b.listener;
}

pub record IsKept (b : Inside) : Type 0 where
  pub seen : HasSeen (book_of b)
