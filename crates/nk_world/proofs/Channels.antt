-- What holds of each channel of a world.
use Rattle.std.proofs.Common.{zero, ℕ, suc, ◌≡◌, ◌+◌, ◌<◌, ◌≤◌, refl, sym, ◌∙◌, ap, subst, List, [], ◌∷◌, ◌++◌, length, map, take, drop, slice_get, slice_set, get_or, ◌-◌, Bool, true, false, Option, Some, Result, Ok, Err, IfOk, arith, None}
use Rattle.std.specs.List.{All, AllZip}
use Rattle.std.specs.Option.{option_map}
use Rattle.std.proofs.lemmas.List.{map-set, set-get_or, take_more, drop-set-lt, take-append-le, take_all, length-map, length-drop}
use Rattle.std.proofs.Math.Seq.{drop-cons, map-set_same, take-suc-set}
use Rattle.std.proofs.lemmas.Option.{slice_get-map, slice_get-get_or, slice_get_within, get_or_from_slice_get}
use Rattle.std.proofs.lemmas.List.Elements.{All-nil, All-cons, All-head, All-tail, AllZip-push}
use Rattle.nk_plan.specs.declared.plan.ChannelPlan.{ChannelPlan}
use Rattle.nk_plan.specs.declared.step.Step.{Step}
use Rattle.nk_plan.specs.declared.ends.ChannelEnd.{ChannelEnd}
use Rattle.nk_plan.specs.Accepted.{Accepted}
use Rattle.nk_world.specs.declared.playing.Playing.{Playing}
use Rattle.nk_world.specs.Play.{Play, new_play, play_step, play_enabled, IsReached, IsQuiet, IsDrained, tried, round_steps}
use Rattle.nk_world.specs.Parts.{play_of, IsSound, DrainsTo, new_playing}
use Rattle.nk_world.specs.World.{WorldView, plan_of, plans_of, step_in, enabled_in, world_step, world_enabled, world_round, world_rounds, AreDrained}
use Rattle.nk_world.specs.End.{end_of, IsEnd}
use Rattle.nk_base.specs.declared.status.Moved.{Moved}
use Rattle.nk_base.specs.declared.status.Moved.TheVariants.{Idle}
use Rattle.nk_base.specs.declared.status.Memory.{Memory}
use Rattle.nk_base.specs.Status.{moved_if}
use Rattle.nk_world.specs.Laws.{PlayLaws}
use Rattle.nk_world.proofs.Idle.{idle_step}
use Rattle.nk_world.proofs.Plays.{reached_new}
use Rattle.nk_world.proofs.Worlds.{drained_apart}
use Rattle.nk_world.proofs.Ends.{EndLaws, is_end}

-- before the first step

sound_new : (c : ChannelPlan) → Accepted c → IsSound (new_playing c)
sound_new c a = record { reached = reached_new c a; parts = refl }

all_sound : (cs : List ChannelPlan) → All Accepted cs → All IsSound (map new_playing cs)
all_sound [] a = All-nil IsSound
all_sound (c ∷ cs) a = All-cons IsSound (new_playing c) (map new_playing cs) (sound_new c (All-head Accepted c cs a)) (all_sound cs (All-tail Accepted c cs a))

pub new_sound : (cs : List ChannelPlan) (xs : List Playing) → All Accepted cs → xs ≡ map new_playing cs → All IsSound xs
new_sound cs xs a e = subst (λ (ys : List Playing). All IsSound ys) (sym e) (all_sound cs a)

all_new : (cs : List ChannelPlan) → map play_of (map new_playing cs) ≡ map new_play cs
all_new [] = refl
all_new (c ∷ cs) = ap (λ (ps : List Play). new_play c ∷ ps) (all_new cs)

pub new_plays : (cs : List ChannelPlan) (xs : List Playing) → xs ≡ map new_playing cs → map play_of xs ≡ map new_play cs
new_plays cs xs e = ap (λ (ys : List Playing). map play_of ys) e ∙ all_new cs

-- a step of one channel

found : (xs : List Playing) (i : ℕ) (s : Playing) → slice_get xs i ≡ Some s → slice_get (map play_of xs) i ≡ Some (play_of s)
found xs i s e = slice_get-map play_of xs i ∙ ap (λ (o : Option Playing). option_map play_of o) e

pub stepped : (xs : List Playing) (i : ℕ) (s new : Playing) (x : Step) → slice_get xs i ≡ Some s → play_of new ≡ play_step x (play_of s)
    → map play_of (slice_set xs i new) ≡ step_in i x (map play_of xs) (slice_get (map play_of xs) i)
stepped xs i s new x e d =
    map-set play_of xs i new
    ∙ (ap (λ (p : Play). slice_set (map play_of xs) i p) d
    ∙ ap (λ (o : Option Play). step_in i x (map play_of xs) o) (sym (found xs i s e)))

pub answered : (xs : List Playing) (i : ℕ) (s : Playing) (x : Step) → slice_get xs i ≡ Some s → play_enabled x (play_of s) ≡ enabled_in x (slice_get (map play_of xs) i)
answered xs i s x e = ap (λ (o : Option Play). enabled_in x o) (sym (found xs i s e))

-- the drain

pub drained_each : (xs ys : List Playing) → AllZip DrainsTo xs ys → AllZip IsDrained (map play_of xs) (map play_of ys)
drained_each [] [] d = tt
drained_each [] (y ∷ ys) d = absurd d
drained_each (x ∷ xs) [] d = absurd d
drained_each (x ∷ xs) (y ∷ ys) (d, ds) = (d.drained, drained_each xs ys ds)

pub sound_each : (xs ys : List Playing) → AllZip DrainsTo xs ys → All IsSound ys
sound_each [] [] d = All-nil IsSound
sound_each [] (y ∷ ys) d = absurd d
sound_each (x ∷ xs) [] d = absurd d
sound_each (x ∷ xs) (y ∷ ys) (d, ds) = All-cons IsSound y ys d.sound (sound_each xs ys ds)

pub reached_each : (xs : List Playing) → All IsSound xs → All IsReached (map play_of xs)
reached_each [] a = All-nil IsReached
reached_each (x ∷ xs) a = All-cons IsReached (play_of x) (map play_of xs) (All-head IsSound x xs a).reached (reached_each xs (All-tail IsSound x xs a))

-- the ends

pub ends_each : (xs : List Playing) → All IsSound xs → EndLaws → All IsQuiet (map play_of xs)
    → AllZip IsEnd (map plan_of (map play_of xs)) (map end_of (map play_of xs))
ends_each [] a law q = tt
ends_each (x ∷ xs) a law q = (
  is_end (play_of x) (All-head IsSound x xs a).reached law (All-head IsQuiet (play_of x) (map play_of xs) q),
  ends_each xs (All-tail IsSound x xs a) law (All-tail IsQuiet (play_of x) (map play_of xs) q),
)

last_end : (xs : List Playing) (s : Playing) → map end_of (map play_of (xs ++ s ∷ [])) ≡ map end_of (map play_of xs) ++ end_of (play_of s) ∷ []
last_end [] s = refl
last_end (x ∷ xs) s = ap (λ (es : List ChannelEnd). end_of (play_of x) ∷ es) (last_end xs s)

pub ends_more : (xs : List Playing) (s : Playing) (es : List ChannelEnd) (e : ChannelEnd) → es ≡ map end_of (map play_of xs) → e ≡ end_of (play_of s)
    → es ++ e ∷ [] ≡ map end_of (map play_of (xs ++ s ∷ []))
ends_more xs s es e d f =
    ap (λ (ys : List ChannelEnd). ys ++ e ∷ []) d ∙ (ap (λ (x : ChannelEnd). map end_of (map play_of xs) ++ x ∷ []) f ∙ sym (last_end xs s))

-- the drain of one more

zip_length : {A : Type 0} (R : A → A → Type 0) (xs ys : List A) → AllZip R xs ys → length xs ≡ length ys
zip_length R [] [] d = refl
zip_length R [] (y ∷ ys) d = absurd d
zip_length R (x ∷ xs) [] d = absurd d
zip_length R (x ∷ xs) (y ∷ ys) (d, ds) = ap suc (zip_length R xs ys ds)

-- the place i is there in both, with the same channel
record Same (xs ys : List Playing) (i : ℕ) (d : Playing) : Type 0 where
  within : i < length xs
  here : get_or xs i d ≡ get_or ys i d
  behind : drop (suc i) xs ≡ drop (suc i) ys

same_at : (xs ys : List Playing) (i : ℕ) (d : Playing) → i < length ys → drop i xs ≡ drop i ys → Same xs ys i d
same_at xs ys i d l e =
    let n : length xs - i ≡ length ys - i = sym (length-drop i xs) ∙ (ap (λ (zs : List Playing). length zs) e ∙ length-drop i ys) in
    let m : i < length xs = omega arith in
    let f : get_or xs i d ∷ drop (suc i) xs ≡ get_or ys i d ∷ drop (suc i) ys = sym (drop-cons xs i d m) ∙ (e ∙ drop-cons ys i d l) in
    record { within = m; here = cc; behind = cc }

pub next_sound : (xs ys : List Playing) (i : ℕ) (d : Playing) → i < length ys → drop i xs ≡ drop i ys → All IsSound ys → IsSound (get_or xs i d)
next_sound xs ys i d l e a =
    let s : Same xs ys i d = same_at xs ys i d l e in
    subst IsSound (sym s.here) (a i d l)

pub next_drained : (xs ys : List Playing) (i : ℕ) (d new : Playing) → i < length ys → drop i xs ≡ drop i ys → AllZip DrainsTo (take i ys) (take i xs) → DrainsTo (get_or xs i d) new
    → AllZip DrainsTo (take (i + 1) ys) (take (i + 1) (slice_set xs i new))
next_drained xs ys i d new l e done here =
    let s : Same xs ys i d = same_at xs ys i d l e in
    let h : DrainsTo (get_or ys i d) new = subst (λ (x : Playing). DrainsTo x new) s.here here in
    let n : i + 1 ≡ suc i = omega arith in
    let a : take (i + 1) ys ≡ take i ys ++ get_or ys i d ∷ [] = take_more ys i d l in
    let b : take (i + 1) (slice_set xs i new) ≡ take i xs ++ new ∷ [] = ap (λ k. take k (slice_set xs i new)) n ∙ take-suc-set xs i new s.within in
    rw (a, b) (AllZip-push DrainsTo (take i ys) (take i xs) (get_or ys i d) new done h)

pub next_rest : (xs ys : List Playing) (i : ℕ) (d new : Playing) → i < length ys → drop i xs ≡ drop i ys → drop (i + 1) (slice_set xs i new) ≡ drop (i + 1) ys
next_rest xs ys i d new l e =
    let s : Same xs ys i d = same_at xs ys i d l e in
    let n : i + 1 ≡ suc i = omega arith in
    drop-set-lt (i + 1) xs i new (omega arith) ∙ (ap (λ k. drop k xs) n ∙ (s.behind ∙ ap (λ k. drop k ys) (sym n)))

-- all were drained, as the vector has it
pub whole : (xs ys items : List Playing) (n : ℕ) → AllZip DrainsTo xs ys → xs ≡ items → length xs ≡ n → take n (ys ++ drop (length ys) items) ≡ ys
whole xs ys items n d e l =
    let m : length xs ≡ length ys = zip_length DrainsTo xs ys d in
    let k : length xs ≡ length items = ap (λ (zs : List Playing). length zs) e in
    take-append-le n ys (drop (length ys) items) (omega arith) ∙ take_all n ys (omega arith)

-- A WORLD

abbrev view_of : List Playing → Bool → WorldView
view_of xs failed = record { plays = map play_of xs; failed = failed }

pub at_place : (xs : List Playing) (f : Bool) (w : WorldView) (n : ℕ) (s : Playing) → view_of xs f ≡ w → 1 ≤ n → n ≤ length w.plays → s ≡ get_or xs (n - 1) s → slice_get xs (n - 1) ≡ Some s
at_place xs f w n s e l m v =
    let k : length (map play_of xs) ≡ length w.plays = ap (λ (x : WorldView). length x.plays) e in
    slice_get-get_or xs (n - 1) s (omega (arith, length-map xs play_of)) ∙ ap (λ (x : Playing). Some x) (sym v)

pub world_stepped : (xs : List Playing) (f : Bool) (w : WorldView) (n : ℕ) (s new : Playing) (x : Step) → view_of xs f ≡ w → f ≡ false → slice_get xs (n - 1) ≡ Some s
    → play_of new ≡ play_step x (play_of s) → view_of (slice_set xs (n - 1) new) f ≡ record { plays = world_step n x w.plays; failed = false }
world_stepped xs f w n s new x e d g h =
    let W : List Play → Bool → WorldView = λ ps b. record { plays = ps; failed = b } in
    ap (λ (ps : List Play). W ps f) (stepped xs (n - 1) s new x g h)
    ∙ (ap (λ (v : WorldView). W (world_step n x v.plays) f) e ∙ ap (λ (b : Bool). W (world_step n x w.plays) b) d)

pub world_answered : (xs : List Playing) (f : Bool) (w : WorldView) (n : ℕ) (s : Playing) (x : Step) (m : Moved) → view_of xs f ≡ w → slice_get xs (n - 1) ≡ Some s
    → m ≡ moved_if (play_enabled x (play_of s)) → m ≡ moved_if (world_enabled n x w.plays)
world_answered xs f w n s x m e g h =
    h ∙ (ap moved_if (answered xs (n - 1) s x g) ∙ ap (λ (v : WorldView). moved_if (world_enabled n x v.plays)) e)

not_moved : (b : Bool) → moved_if b ≡ Idle → b ≡ false
not_moved true e = cc
not_moved false e = refl

-- a step that is not enabled changes no channel
idle_in : (i : ℕ) (x : Step) (ps : List Play) (o : Option Play) → slice_get ps i ≡ o → All IsReached ps → PlayLaws → enabled_in x o ≡ false → step_in i x ps o ≡ ps
idle_in i x ps None e a law d = refl
idle_in i x ps (Some p) e a law d =
    let same : get_or ps i p ≡ p = get_or_from_slice_get ps i p p e in
    let r : IsReached p = subst IsReached same (a i p (slice_get_within ps i p e)) in
    ap (λ (q : Play). slice_set ps i q) (idle_step x p r law d ∙ sym same) ∙ set-get_or ps i p

pub world_idle : (xs : List Playing) (f : Bool) (w new : WorldView) (n : ℕ) (x : Step) (m : Moved) → All IsSound xs → PlayLaws → view_of xs f ≡ w → f ≡ false
    → new ≡ record { plays = world_step n x w.plays; failed = false } → m ≡ moved_if (world_enabled n x w.plays) → m ≡ Idle → new ≡ w
world_idle xs f w new n x m a law e works d answer idle =
    let r : All IsReached w.plays = subst (λ (v : WorldView). All IsReached v.plays) e (reached_each xs a) in
    let W : List Play → Bool → WorldView = λ ps b. record { plays = ps; failed = b } in
    let same : world_step n x w.plays ≡ w.plays =
    idle_in (n - 1) x w.plays (slice_get w.plays (n - 1)) refl r law (not_moved (world_enabled n x w.plays) (sym answer ∙ idle)) in
    d ∙ (ap (λ (ps : List Play). W ps false) same ∙ (ap (λ b. W w.plays b) (sym works ∙ ap (λ (v : WorldView). v.failed) e)))

pub world_drained : (xs ys items all : List Playing) (f : Bool) (w : WorldView) → All IsSound items → PlayLaws → view_of items f ≡ w → xs ≡ items → AllZip DrainsTo xs ys → all ≡ ys
    → AreDrained w.plays (map play_of all)
world_drained xs ys items all f w a law e d z g =
    let p : map play_of xs ≡ w.plays = ap (λ (zs : List Playing). map play_of zs) d ∙ ap (λ (v : WorldView). v.plays) e in
    let k : AreDrained (map play_of xs) (map play_of ys) =
    drained_apart (map play_of xs) (map play_of ys) (reached_each xs (subst (λ (zs : List Playing). All IsSound zs) (sym d) a)) law (drained_each xs ys z) in
    subst (λ (zs : List Playing). AreDrained w.plays (map play_of zs)) (sym g) (subst (λ (ps : List Play). AreDrained ps (map play_of ys)) p k)

pub world_ends : (r : Result (List ChannelEnd) Memory) (xs : List Playing) (f : Bool) (w : WorldView) → view_of xs f ≡ w
    → IfOk r (λ es. es ≡ map end_of (map play_of xs)) → IfOk r (λ es. es ≡ map end_of w.plays)
world_ends (Ok es) xs f w e h = h ∙ ap (λ (v : WorldView). map end_of v.plays) e
world_ends (Err m) xs f w e h = h

pub world_promised : (r : Result (List ChannelEnd) Memory) (xs : List Playing) (f : Bool) (w : WorldView) → view_of xs f ≡ w → All IsSound xs → EndLaws
    → IfOk r (λ es. es ≡ map end_of (map play_of xs)) → IfOk r (λ es. All IsQuiet w.plays → AllZip IsEnd (plans_of w) es)
world_promised (Ok es) xs f w e a law h =
    let P : WorldView → List ChannelEnd → Type 0 = λ v ds. All IsQuiet v.plays → AllZip IsEnd (map plan_of v.plays) ds in
    subst (λ (v : WorldView). P v es) e (subst (λ (ds : List ChannelEnd). P (view_of xs f) ds) (sym h) (λ q. ends_each xs a law q))
world_promised (Err m) xs f w e a law h = h

-- each channel keeps its plan

tried_plan : (xs : List Step) (p : Play) → (tried xs p).plan ≡ p.plan
tried_plan [] p = refl
tried_plan (x ∷ xs) p = tried_plan xs (play_step x p)

round_plans : (ps : List Play) → map plan_of (world_round ps) ≡ map plan_of ps
round_plans [] = refl
round_plans (p ∷ ps) =
    ap (λ (c : ChannelPlan). c ∷ map plan_of (world_round ps)) (tried_plan round_steps p) ∙ ap (λ (cs : List ChannelPlan). p.plan ∷ cs) (round_plans ps)

rounds_plans : (n : ℕ) (ps : List Play) → map plan_of (world_rounds n ps) ≡ map plan_of ps
rounds_plans zero ps = refl
rounds_plans (suc n) ps = rounds_plans n (world_round ps) ∙ round_plans ps

pub drained_plans : (ps qs : List Play) → AreDrained ps qs → map plan_of qs ≡ map plan_of ps
drained_plans ps qs d = ap (λ (xs : List Play). map plan_of xs) (sym d.led) ∙ rounds_plans d.count ps

in_plans : (i : ℕ) (x : Step) (ps : List Play) (o : Option Play) → slice_get ps i ≡ o → map plan_of (step_in i x ps o) ≡ map plan_of ps
in_plans i x ps None e = refl
in_plans i x ps (Some p) e = map-set_same plan_of ps i (play_step x p) p (ap plan_of (sym (get_or_from_slice_get ps i p p e)))

pub stepped_plans : (n : ℕ) (x : Step) (ps : List Play) → map plan_of (world_step n x ps) ≡ map plan_of ps
stepped_plans n x ps = in_plans (n - 1) x ps (slice_get ps (n - 1)) refl

pub plans_new : (cs : List ChannelPlan) → map plan_of (map new_play cs) ≡ cs
plans_new [] = refl
plans_new (c ∷ cs) = ap (λ (ds : List ChannelPlan). c ∷ ds) (plans_new cs)
