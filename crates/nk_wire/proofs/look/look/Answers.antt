-- A whole frame stands first, and its rest was read.
use Rattle.std.proofs.Common.{◌≡◌, ◌≤◌, ℕ, List, length, take, drop, rules, subst, Ok}
use Rattle.nk_wire.specs.Reading.{any_answer}
use Rattle.nk_wire.specs.Streams.{length_of}
use Rattle.nk_wire.proofs.Firsts.{looks-whole}
use Rattle.nk_wire.proofs.look.look.Goals as goal

pub returns-in-Ok : goal.returns-in-Ok
returns-in-Ok c =
    let bytes = c.args.unused.now in
    let n = c.from_le_bytes-length.result in
    let is : length_of bytes ≡ n = search rules in
    let all : n ≤ length (drop 4 bytes) = search rules in
    looks-whole bytes n c.in-Ok.message (search rules) is (search rules) (search rules) all (subst (λ (l : List ℕ). any_answer (take n l) ≡ Ok c.in-Ok.message) c.split_at.ensures.back c.in-Ok.ensures.exact)
