-- Messages in range fit the text.
use Rattle.std.proofs.Common.{ℕ, ◌<◌, ◌≤◌, ◌^◌, arith}
use Rattle.nk_base.specs.declared.message.MainMsg.TheVariants as main
use Rattle.nk_base.specs.declared.message.BackMsg.TheVariants as back
use Rattle.nk_base.specs.declared.message.UpMsg.TheVariants as up
use Rattle.nk_trace_law.specs.RangeLaws.{MainRangeLaw, BackRangeLaw, UpRangeLaw}

-- a number of at most so much, which is no more than a piece may have
small : (n most : ℕ) → most ≤ 131072 → n ≤ most → n < 2 ^ 64
small n most h l = omega arith

hop_fits : (n : ℕ) → n < 32 → n < 2 ^ 64
hop_fits n h = omega arith

pub main_range_law : MainRangeLaw
main_range_law (main.Start h s head) (p, q, r) w = (hop_fits h p, w, small head.code 999 (omega arith) r.most, small _ 64 (omega arith) r.count)
main_range_law (main.FailedOpen h s) (p, q) w = (hop_fits h p, w)
main_range_law (main.Redirect1 h c) (p, q) w = (hop_fits h p, small c 399 (omega arith) q.1)
main_range_law (main.Redirect3 h) p w = hop_fits h p

pub back_range_law : BackRangeLaw
back_range_law (back.Start h s head) (p, q, r) w = (hop_fits h p, w, small head.code 999 (omega arith) r.most, small _ 64 (omega arith) r.count)
back_range_law (back.StartSent h) p w = hop_fits h p
back_range_law (back.Bytes h s o piece) (p, q, r) (w, x) = (hop_fits h p, w, x, small _ 131072 (omega arith) r.1)
back_range_law (back.Stop h s ts) (p, q, r) w = (hop_fits h p, w, small _ 64 (omega arith) r.count)

pub up_range_law : UpRangeLaw
up_range_law up.Open p w = tt
up_range_law up.Suspend p w = tt
up_range_law up.Resume p w = tt
up_range_law (up.Cancel s) p w = w
up_range_law (up.Verify h s) (p, q) w = (hop_fits h p, w)
up_range_law (up.BytesRead n) p w = small n 131072 (omega arith) p.1
up_range_law up.Deleting p w = tt
