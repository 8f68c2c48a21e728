-- So many bytes of the source stand behind the list, and there is room for the others.
use Rattle.std.proofs.Common.{◌≡◌, ◌++◌, ◌+◌, ◌≤◌, length, take}
use Rattle.nk_pump.proofs.pump.append.Given as goal

abbrev pub invariant-loop-byte : goal.invariant-loop-byte
invariant-loop-byte l =
    record {
      room : length l.source ≤ l.bytes.room + l.byte-index;
      items : l.bytes.items ≡ l.fn.bytes.items ++ take l.byte-index l.source;
    }
