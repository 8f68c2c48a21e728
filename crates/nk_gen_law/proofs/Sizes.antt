-- A made script is short.
use Rattle.std.proofs.Common.{ℕ, suc, zero, ◌<◌, ◌≤◌, ◌+◌, ◌*◌, ◌==◌, Bool, true, false, cond, List, [], ◌∷◌, ◌++◌, length, codes, length-append, arith}
use Rattle.std.specs.Fmt.{decimal}
use Rattle.std.proofs.lemmas.Fmt.{length-decimal-le}
use Rattle.nk_trace.specs.Words.{hex_byte}
use Rattle.nk_gen.specs.Draws.{next, first_draw, second_draw}
use Rattle.nk_gen.specs.Made.{redirect_lines, fill_line, fill_lines, listener_line, worker_line, retarget_line, response_lines, head_lines, body_lines, behind_body, option_lines, channel_lines, behind_channel, channels}
use Rattle.nk_gen_law.specs.Laws.{MadeSizeLaw}
use Rattle.nk_gen_law.proofs.Draws.{draw_below}

redirects_short : (n : ℕ) → length (redirect_lines n) ≤ 23 * n
redirects_short zero = omega arith
redirects_short (suc n) = omega (arith, redirects_short n)

head_short : (x : ℕ) → length (head_lines x) ≤ 77
unfolding head_lines
head_short x = let few : first_draw 4 x < 4 = draw_below 4 (next x) (omega arith) in omega (arith, redirects_short (first_draw 4 x))

fill_short : (byte count : ℕ) → count ≤ 8192 → length (fill_line byte count) ≤ 13
fill_short byte count few =
    let digits : length (decimal count) ≤ 4 = length-decimal-le 4 count (omega arith) (omega arith) (omega arith) in
    omega (arith, length-append (codes "fill " ++ (hex_byte byte ++ 32 ∷ decimal count)) (10 ∷ []))

fills_short : (n x : ℕ) → length (fill_lines n x) ≤ 13 * n
fills_short zero x = omega arith
fills_short (suc n) x =
    let few : second_draw 8192 x < 8192 = draw_below 8192 (next (next x)) (omega arith) in
    let here = fill_short (first_draw 256 x) (1 + second_draw 8192 x) (omega arith) in
    omega (arith, length-append (fill_line (first_draw 256 x) (1 + second_draw 8192 x)) (fill_lines n (next (next x))), here, fills_short n (next (next x)))

response_short : (n x : ℕ) → n ≤ 64 → length (response_lines n x) ≤ 856
response_short n x few = omega (arith, length-append (codes "hop response 200\n" ++ fill_lines n x) (codes "end ok\n"), fills_short n x)

body_short : (x : ℕ) → length (body_lines x) ≤ 856
unfolding body_lines
body_short x =
    let few : first_draw 64 x < 64 = draw_below 64 (next x) (omega arith) in
    response_short (1 + first_draw 64 x) (next x) (omega arith)

either_short : (test : Bool) (v w : List ℕ) (most : ℕ) → length v ≤ most → length w ≤ most → length (cond test v w) ≤ most
either_short true v w most p q = p
either_short false v w most p q = q

worker_short : (worker : ℕ) → worker < 5 → length (worker_line worker) ≤ 21
worker_short worker few =
    let digits : length (decimal worker) ≤ 1 = length-decimal-le 1 worker (omega arith) (omega arith) (omega arith) in
    omega (arith, length-append (codes "at start retarget w" ++ decimal worker) (10 ∷ []))

options_short : (x : ℕ) → length (option_lines x) ≤ 45
unfolding option_lines
options_short x =
    let few : second_draw 5 x < 5 = draw_below 5 (next (next x)) (omega arith) in
    let pipe = either_short (first_draw 2 x == 1) (codes "listener pipe 4096 16 2\n") [] 24 (omega arith) (omega arith) in
    let worker = either_short (second_draw 5 x == 0) [] (worker_line (second_draw 5 x)) 21 (omega arith) (worker_short (second_draw 5 x) few) in
    omega (arith, length-append (listener_line (first_draw 2 x)) (retarget_line (second_draw 5 x)), pipe, worker)

channel_short : (x : ℕ) → length (channel_lines x) ≤ 978
channel_short x =
    omega (
      arith,
      length-append (head_lines x ++ body_lines (next x)) (option_lines (behind_body (next x))),
      length-append (head_lines x) (body_lines (next x)),
      head_short x,
      body_short (next x),
      options_short (behind_body (next x)),
    )

channels_short : (n x : ℕ) → length (channels n x) ≤ 978 * n
channels_short zero x = omega arith
channels_short (suc n) x = omega (arith, length-append (channel_lines x) (channels n (behind_channel x)), channel_short x, channels_short n (behind_channel x))

pub made_short : MadeSizeLaw
made_short n =
    let few : first_draw 17 n < 17 = draw_below 17 (next n) (omega arith) in
    omega (arith, channels_short (16 + first_draw 17 n) (next n))
