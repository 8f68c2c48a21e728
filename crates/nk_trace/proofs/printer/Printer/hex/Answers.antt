-- The room behind the text is filled with the digits.
use Rattle.std.proofs.Common.{◌≡◌, ◌++◌, ◌+◌, ◌-◌, ◌*◌, length, take, replicate, arith}
use Rattle.hex.specs.Hex.{encode_lower}
use Rattle.nk_trace.proofs.Digits.{behind}
use Rattle.nk_trace.proofs.printer.Printer.hex.Goals as goal

pub returns-in-Ok-encode_to_slice-clause-ok : goal.returns-in-Ok-encode_to_slice-clause-ok
returns-in-Ok-encode_to_slice-clause-ok c =
    let digits : c.encode_to_slice.new.output ≡ encode_lower c.args.bytes.now
    = grind (arith, c.in-Ok-encode_to_slice.is, c.encode_to_slice.ensures.written) in
    let start : c.len-start.result ≡ length c.args.self.now = grind (arith, c.len-start.ensures, c.self.view_is) in
    let end : c.resize.new.self.len ≡ c.len-start.result + 2 * length c.args.bytes.now
    = grind (arith, c.resize.ensures.len, c.in-Ok.is, c.and_then.ensures, c.checked_mul.ensures, c.in-Some.is) in
    let room : c.deref_mut.result.now ≡ take c.resize.new.self.len c.args.self.now ++ replicate (c.resize.new.self.len - c.len-start.result) 0
    = grind (arith, c.resize.ensures.items, c.resize.ensures.len, c.in-Ok.is, c.len-start.ensures, c.deref_mut.ensures.value, c.self.view_is) in
    behind c.args.self.now c.args.bytes.now c.encode_to_slice.new.output c.deref_mut.result.now _ c.len-start.result
    c.resize.new.self.len start end digits room
