-- The script that a number makes. This project's own.
use Rattle.std.specs.Prelude.{ℕ, zero, suc, ◌+◌, ◌*◌, ◌==◌, if◌then◌else◌, List, [], ◌∷◌, ◌++◌, codes, decimal}
use Rattle.nk_trace.specs.Words.{line, hex_byte}
use Rattle.nk_gen.specs.Draws.{next, behind, first_draw, second_draw}

-- so many redirects that the page allows
abbrev pub redirect_lines : ℕ → List ℕ
redirect_lines zero = []
redirect_lines (suc r) = codes "hop redirect 302 allow\n" ++ redirect_lines r

-- a piece of one byte, repeated
abbrev pub fill_line : ℕ → ℕ → List ℕ
fill_line byte count = line (codes "fill" ∷ hex_byte byte ∷ decimal count ∷ [])

-- so many pieces, each with two draws behind x: its byte, and its size less 1
abbrev pub fill_lines : ℕ → ℕ → List ℕ
fill_lines zero x = []
fill_lines (suc p) x = fill_line (first_draw 256 x) (1 + second_draw 8192 x) ++ fill_lines p (next (next x))

-- a pipe with two readers, where 1 is drawn
abbrev pub listener_line : ℕ → List ℕ
listener_line draw = if draw == 1 then codes "listener pipe 4096 16 2\n" else []

-- the data goes to this worker
abbrev pub worker_line : ℕ → List ℕ
worker_line worker = codes "at start retarget w" ++ decimal worker ++ 10 ∷ []

-- the data goes to the worker that is drawn, if it is not 0
abbrev pub retarget_line : ℕ → List ℕ
retarget_line draw = if draw == 0 then [] else worker_line draw

-- a response with so many pieces, whose draws stand behind x
abbrev pub response_lines : ℕ → ℕ → List ℕ
response_lines p x = codes "hop response 200\n" ++ fill_lines p x ++ codes "end ok\n"

-- a channel begins, with redirects
unfoldable pub head_lines : ℕ → List ℕ
head_lines x = codes "channel\n" ++ redirect_lines (first_draw 4 x)

-- a response of 1 to 64 pieces, and the number behind its draws
unfoldable pub body_lines : ℕ → List ℕ
body_lines x = response_lines (1 + first_draw 64 x) (next x)

unfoldable pub behind_body : ℕ → ℕ
behind_body x = behind (2 * (1 + first_draw 64 x)) (next x)

-- the options of a channel
unfoldable pub option_lines : ℕ → List ℕ
option_lines x = listener_line (first_draw 2 x) ++ retarget_line (second_draw 5 x)

-- the channel behind x, and the number behind its draws
abbrev pub channel_lines : ℕ → List ℕ
channel_lines x = head_lines x ++ body_lines (next x) ++ option_lines (behind_body (next x))

abbrev pub behind_channel : ℕ → ℕ
behind_channel x = behind 2 (behind_body (next x))

abbrev pub channels : ℕ → ℕ → List ℕ
channels zero x = []
channels (suc n) x = channel_lines x ++ channels n (behind_channel x)

-- the script of n: 16 to 32 channels
abbrev pub made_script : ℕ → List ℕ
made_script n = codes "script 1\n" ++ channels (16 + first_draw 17 n) (next n)
