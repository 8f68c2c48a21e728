-- Piece by piece, the bytes are listed.
use Rattle.std.proofs.Common.{◌≡◌, ◌++◌, ℕ, List, IfErr, sym, subst, arith}
use Rattle.nk_run.specs.Listing.{AreBytes, Stops, RefusesFrames}
use Rattle.nk_run.proofs.Listings.{front, refuses, refuses_all, failed, split_more, all_fed}
use Rattle.nk_run.proofs.frames.list.Goals as goal

pub lines-requires : goal.lines-requires
lines-requires c =
    let i = c.loop-rest.invariant in
    omega (arith, c.requires, i.total, c.split_at.ensures.front_len, c.split_at.ensures.back_len, c.in_ok-feed.ensures.total i.listed.0 i.listed.2)

pub loop-rest-preserved : goal.loop-rest-preserved
loop-rest-preserved c =
    let i = c.loop-rest.invariant in
    let fed = i.listed.0 in
    let piece = c.split_at.result.0.now in
    let left = c.split_at.result.1.now in
    let all : c.args.bytes.now ≡ (fed ++ piece) ++ left = split_more c.args.bytes.now fed c.loop-rest.rest.now piece left i.listed.1 c.split_at.ensures.by_index.0 in
    let are : AreBytes c.args.bytes.now = λ k. (c.type_inv.bytes k).fits in
    record {
      listed = (
        fed ++ piece,
        all,
        c.in_ok-lines.ensures.listed (fed ++ piece) (front (fed ++ piece) left (subst AreBytes all are)) (c.in_ok-feed.ensures.listed fed i.listed.2),
      );
      part = c.in_ok-lines.ensures.part;
      total = omega (arith, i.total, c.split_at.ensures.front_len, c.split_at.ensures.back_len, c.in_ok-feed.ensures.total fed i.listed.2, c.in_ok-lines.ensures.total);
    }

pub returns-in_err-lines-clause-refuses : goal.returns-in_err-lines-clause-refuses
returns-in_err-lines-clause-refuses c =
    let i = c.loop-rest.invariant in
    let fed = i.listed.0 in
    let piece = c.split_at.result.0.now in
    let left = c.split_at.result.1.now in
    let e = c.in_err-lines.field-0.0 in
    let all : c.args.bytes.now ≡ (fed ++ piece) ++ left = split_more c.args.bytes.now fed c.loop-rest.rest.now piece left i.listed.1 c.split_at.ensures.by_index.0 in
    let are : AreBytes c.args.bytes.now = λ k. (c.type_inv.bytes k).fits in
    let stops = c.in_err-lines.ensures.stops (fed ++ piece) left (subst AreBytes all are) (c.in_ok-feed.ensures.listed fed i.listed.2) in
    failed c.from_residual-in_err-lines.result e (λ f. RefusesFrames f c.args.bytes.now) c.from_residual-in_err-lines.ensures.1
    (refuses c.frames_are_read.ensures.read c.one_stands_first.ensures.only e c.args.bytes.now (subst (Stops e) (sym all) stops))

pub returns-clause-refuses : goal.returns-clause-refuses
returns-clause-refuses c =
    let i = c.loop-rest.invariant in
    let fed = i.listed.0 in
    let same : fed ≡ c.args.bytes.now = all_fed c.args.bytes.now fed c.loop-rest.rest.now i.listed.1 (sym c.loop-rest-test.ensures) in
    let are : AreBytes c.args.bytes.now = λ k. (c.type_inv.bytes k).fits in
    refuses_all c.frames_are_read.ensures.read c.one_stands_first.ensures.only c.end.result c.args.bytes.now
    (subst (λ (b : List ℕ). IfErr c.end.result (λ e. Stops e b)) same (c.end.ensures.stops fed (subst AreBytes (sym same) are) i.listed.2))
