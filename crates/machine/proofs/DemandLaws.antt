-- Demand 3, for every list of calls: what each call does (CallLaws), summed up over the list. Assumes nothing.
use Prim.Native.Nat.{ℕ, ◌≤◌, ◌<◌}
use mathlib.Core.Bool.{Bool, true, false, ◌||◌}
use mathlib.Core.List.{List, [], ◌∷◌}
use mathlib.Core.Path.{◌≡◌, refl, sym, ap, subst, ◌∙◌}
use native.Mathlib.Omega.{arith}
use borrow.Author.Tests.{not-true}
use Rattle.laws.proofs.Tests.{true_false}
use Rattle.laws.proofs.Tests.{both}
use Rattle.machine.specs.Shares as shares
use Rattle.laws.specs.Axes.{directed}
use Rattle.machine.specs.Calls.{Call, after, run, state}
use Rattle.machine.specs.Roles.{line_of, carries_by, moves, is_tick, begins}
use Rattle.machine.specs.List.{
  effect,
  started,
  distance,
  master,
  counted,
  stop_begun,
  goes_on,
  ends,
  latest,
  travel,
  gone,
  whole,
}
use Rattle.machine.specs.Demand.{ShareLaw, Answer, Ended, Demand3}
use Rattle.machine.proofs.BitLaws.{status_moving}
use Rattle.machine.proofs.ShareLaws.{Share}
use Rattle.machine.proofs.FitLaws.{fits}
use Rattle.machine.proofs.Told.{Told, called_on}
use Rattle.machine.proofs.ListLaws.{whole_end, told}

module _ (s : ℕ) (h : List Call) (t : Told s h) where
  pub same_whole : shares.whole (state s h).move ≡ whole s h
  same_whole = ap (λ (j : ℕ). (state s h).move.plan.distance j) t.masters ∙ t.distances (master s h)

  same_gone : shares.gone (state s h).move ≡ gone s h
  same_gone = ap (λ (j : ℕ). (state s h).move.travel j) t.masters

  shares_hold : (k : ℕ) → k < 5 → started s h ≡ true → ShareLaw s h k
  shares_hold k l b =
      let a : Share (distance s h k) (whole s h) (gone s h) (travel s h k) =
      subst (λ (d : ℕ). Share d (whole s h) (gone s h) (travel s h k)) (t.distances k)
      (subst (λ (n : ℕ). Share ((state s h).move.plan.distance k) n (gone s h) (travel s h k)) same_whole
      (subst (λ (n : ℕ). Share ((state s h).move.plan.distance k) (shares.whole (state s h).move) n (travel s h k))
      same_gone
      (t.good.axis k l))) in
      let p : 0 < whole s h = subst (λ (n : ℕ). 0 < n) same_whole (t.positive b) in
      let f = (fits s h).move in
      record {
        longest = a.short;
        positive = p;
        not_past = subst (λ (n : ℕ). gone s h ≤ n) same_whole
            (subst (λ (n : ℕ). n ≤ shares.whole (state s h).move) same_gone
            (f.within (state s h).move.master f.master));
        at_most = subst (λ (d : ℕ). travel s h k ≤ d) (t.distances k) (f.within k l);
        not_ahead = a.low;
        not_behind = a.high p;
        counts = t.counts k l;
      }

answer_holds : (s : ℕ) (h : List Call) (k : ℕ) → k < 5 → Answer s h k
unfolding latest run
answer_holds s [] k l = record { single = omega arith; sign = λ q. absurd (omega arith) }
answer_holds s (x ∷ h) k l =
    let c = called_on s h x (told s h) in
    record {
      single = c.single k l;
      sign = λ q. c.sign k l q ∙ ap (λ (b : Bool). directed b 1) ((told s (x ∷ h)).minuses k);
    }

-- A start or a move under way is a start_or_carry or a move under way.
or_more : (a b c : Bool) → b || c ≡ true → (a || b) || c ≡ true
or_more true b c e = refl
or_more false b c e = e

ending_holds : (s : ℕ) (h : List Call) (k : ℕ) → k < 5 → ends s h ≡ true → stop_begun s h ≡ false → Ended s h k
unfolding latest run ends stop_begun
ending_holds s [] k l e f = true_false false e refl
ending_holds s (x ∷ h) k l e f =
    let t = told s h in
    let u = told s (x ∷ h) in
    let p = both (is_tick x) _ e in
    let q = both (begins (effect s h x) || goes_on s h) _ p.1 in
    let w = whole_end s h x t
    (or_more (carries_by (line_of (state s h) x)) _ _ ((λ i. begins (effect s h x) || t.goes i) ∙ q.0))
    (sym (status_moving (after (state s h) x)) ∙ not-true (moves (after (state s h) x)) q.1) f in
    record {
      full = sym (same_gone s (x ∷ h) u) ∙ (w.reached ∙ same_whole s (x ∷ h) u);
      there = w.there k l ∙ u.distances k;
      last = λ d. w.last k l (subst (λ (n : ℕ). 0 < n) (sym (u.distances k)) d);
    }

stays_holds : (s : ℕ) (h : List Call) (k : ℕ) → k < 5 → started s h ≡ true → goes_on s h ≡ false → stop_begun s h ≡ false
    → travel s h k ≡ distance s h k
stays_holds s h k l b g f = (told s h).rest b ((told s h).goes ∙ g) f k l ∙ (told s h).distances k

-- Each travel equals the pulses sent, also before any start.
pub counts_hold : (s : ℕ) (h : List Call) (k : ℕ) → k < 5 → travel s h k ≡ counted s h k
counts_hold s h k l = (told s h).counts k l

pub demand_3 : Demand3
demand_3 s h k l = record {
  pause = (told s h).pause;
  shares = shares_hold s h (told s h) k l;
  sums = (told s h).sums k;
  within = (fits s h).places.inside k l;
  answer = answer_holds s h k l;
  ending = ending_holds s h k l;
  stays = stays_holds s h k l;
}
