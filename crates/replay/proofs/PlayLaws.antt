-- Lists of calls: a call by its kind, so many ticks, and the whole list. What a call makes of what was played it makes
-- after the calls so far. Assumes nothing.
use Prim.Native.Nat.{ℕ, ◌+◌, ◌*◌, ◌≤◌, ◌<◌}
use native.Mathlib.Omega.{arith}
use native.Mathlib.Numerals.{add-one}
use mathlib.Core.Bool.{Bool, true, false, cond}
use mathlib.Core.List.{List, [], ◌++◌}
use mathlib.Core.Path.{◌≡◌, refl, sym, subst, ap, ◌∙◌}
use lib.Dec.{leb}
use lib.ListN.{length, get_or, drop, get_or-append, length-append, length-drop}
use lib.Seq.{get_or-drop, drop-drop, drop_at}
use denote.Ref.{Bor}
use Rattle.std.proofs.Common.{Option, None, Some}
use Rattle.std.specs.declared.slice.ChunksExact.{ChunksExact}
use Rattle.std.specs.Slice.Iter.{chunks_exact_rest, chunks_exact_size, chunks_exact_steps}
use Rattle.laws.proofs.Pick.{by_bool}
use Rattle.block.specs.Block.{front_of}
use Rattle.machine.specs.Steps.{TickAnswer, buffer_after_tick}
use Rattle.machine.specs.Calls.{Call, run, state}
use Rattle.machine.proofs.LentLaws.{same_lent}
use Rattle.controller.specs.Held.{held}
use Rattle.controller.specs.Reach.{Reachable}
use Rattle.replay.specs.declared.Kind.{Kind}
use Rattle.replay.specs.declared.play.Played.{Played}
use Rattle.replay.specs.Replay.{Seen, seen, begun, tick_told, ticked, tick_lent, ticks, lent_after, lent_ticks, kind_of, called_by, called, word_at, seen_after, held_seen, Plays, Lends}
use Rattle.replay.specs.Digest.{mixed_bytes}

-- ---- What was played, and a call more

module _ (s : ℕ) (x : Seen) (p : Played) (e : p ≡ held_seen s x) where
  made : held (state s x.calls) ≡ p.controller
  made = sym (ap (λ (y : Played). y.controller) e)

  reach : Reachable p.controller
  reach = record { switch = s; history = x.calls; made = made }

  stepped : (f : ℕ → Seen → Seen) (r : Played) → Plays p r f → r ≡ held_seen s (f s x)
  stepped f r g = g s x.calls made ∙ ap (λ (y : Played). held_seen s (f s (seen x.calls y.digest))) e

-- ---- So many ticks

module _ (w : ℕ) (d : List ℕ) (c : Played) where
  abbrev pub Ticking : ℕ → Played → Type 0
  Ticking n p = Plays c p (λ s. ticks s n w d)

  abbrev pub Lent : ℕ → List ℕ → Type 0
  Lent n x = Lends c x (λ s. lent_after s n w d)

  pub tick_none : Ticking 0 c
  unfolding ticks
  tick_none s h e = λ i. record { controller = sym e i; digest = c.digest }

  pub lent_none : Lent 0 d
  unfolding lent_after
  lent_none s h e = refl

  pub tick_reach : (n : ℕ) (p : Played) → Reachable c.controller → Ticking n p → Reachable p.controller
  tick_reach n p r t =
      reach r.switch (ticks r.switch n w d (seen r.history c.digest)) p
      (t r.switch r.history r.made)

  -- One tick more, which finds x in the buffer, as long as d.
  pub tick_next : (n : ℕ) (p next : Played) (x : List ℕ) → length x ≡ length d → Ticking n p
      → Plays p next (λ s. ticked s w x) → Ticking (n + 1) next
  unfolding ticks run
  tick_next n p next x l t g = λ s h e.
      let y = ticks s n w d (seen h c.digest) in
      rw (add-one n)
      (stepped s y p (t s h e) (λ s. ticked s w x) next g
      ∙ ap (λ (a : TickAnswer). record { controller = held a.machine; digest = tick_told a y.digest })
      (same_lent (state s y.calls) w x d l))

  pub lent_next : (n : ℕ) (p : Played) (x z : List ℕ) → length x ≡ length d → Ticking n p → Lent n x
      → Lends p z (λ s. tick_lent s w x x) → Lent (n + 1) z
  unfolding lent_after
  lent_next n p x z l t b g = λ s h e.
      let y = ticks s n w d (seen h c.digest) in
      rw (add-one n)
      (g s y.calls (made s y p (t s h e))
      ∙ λ i. buffer_after_tick (same_lent (state s y.calls) w x d l i) (b s h e i))

-- No byte of a buffer.
pub front_none : (d : List ℕ) → front_of d 0 ≡ []
front_none d = by_bool (λ (x : List ℕ). x ≡ []) (leb 0 (length d)) _ _ (λ e. refl) (λ e. refl)

pub block_none : (g n : ℕ) (d : List ℕ) → n ≡ 0 → g ≡ mixed_bytes g (front_of d n)
unfolding mixed_bytes
block_none g n d e = rw e (sym (ap (mixed_bytes g) (front_none d)))

-- The buffer after them counts, or not.
pub lent_is : (s w n : ℕ) (h : List Call) (d : List ℕ) (g : ℕ) (ran : Played) (x y : List ℕ) (whole : Bool) (r : ℕ)
    → ran ≡ held_seen s (ticks s n w d (seen h g)) → x ≡ lent_after s n w d (seen h g)
    → y ≡ cond whole x (front_of x 0) → r ≡ mixed_bytes ran.digest y
    → ◌≡◌ {A = Played} (record { controller = ran.controller; digest = r })
    (held_seen s (lent_ticks s n w d whole (seen h g)))
lent_is s w n h d g ran x y whole r e l p q = λ i. record {
  controller = (e i).controller;
  digest = (q ∙ (λ j. mixed_bytes (e j).digest ((p ∙ when whole) j))) i;
}
  where
    when : (t : Bool) → cond t x (front_of x 0) ≡ cond t (lent_after s n w d (seen h g)) []
    when true = l
    when false = front_none x

-- ---- A call's nine bytes

-- They are cut off what is left of the list.
module _ (bs rest c left : List ℕ) (j : ℕ) (e : rest ≡ drop (9 * j) bs) (f : rest ≡ c ++ left) (n : length c ≡ 9)
    (b : 9 * j ≤ length bs) where
  pub byte_of : (i k : ℕ) → i < 9 → k ≡ 9 * j + i → get_or c i 0 ≡ get_or bs k 0
  byte_of i k h q =
      sym (get_or-append c left 0 i (omega (arith, n)))
      ∙ ap (λ (x : List ℕ). get_or x i 0) (sym f ∙ e)
      ∙ get_or-drop (9 * j) bs i 0
      ∙ ap (λ (m : ℕ). get_or bs m 0) (sym q)

  pub word_of : (i : ℕ) → i < 6 → word_at c i ≡ word_at bs (9 * j + i)
  unfolding word_at
  word_of i h = λ t.
      byte_of i (9 * j + i) (omega arith) refl t
      + byte_of (i + 1) (9 * j + i + 1) (omega arith) (omega arith) t * 256
      + byte_of (i + 2) (9 * j + i + 2) (omega arith) (omega arith) t * 65536
      + byte_of (i + 3) (9 * j + i + 3) (omega arith) (omega arith) t * 16777216

  pub left_is : left ≡ drop (9 * (j + 1)) bs
  left_is =
      let m : 9 * j + 9 ≡ 9 * (j + 1) = omega arith in
      sym (drop_at c left 9 n)
      ∙ ap (drop 9) (sym f ∙ e)
      ∙ drop-drop 9 (9 * j) bs
      ∙ ap (λ (k : ℕ). drop k bs) m

  pub left_fits : 9 * (j + 1) ≤ length bs
  left_fits =
      omega (arith, n, b, ap length (sym e ∙ f), length-append c left, length-drop (9 * j) bs)

-- What a step of the list's cutting gives.
pub cut_of : (s t : ChunksExact ℕ) {r : Option (Bor (List ℕ))} {x : Bor (List ℕ)} → chunks_exact_steps s r t
    → r ≡ Some x → (chunks_exact_rest s ≡ x.now ++ chunks_exact_rest t) × (length x.now ≡ chunks_exact_size s)
cut_of s t {x} h e = (subst (λ (r : Option (Bor (List ℕ))). chunks_exact_steps s r t) e h).1

pub end_of : (s t : ChunksExact ℕ) {r : Option (Bor (List ℕ))} → chunks_exact_steps s r t → r ≡ None
    → length (chunks_exact_rest s) < chunks_exact_size s
end_of s t h e = (subst (λ (r : Option (Bor (List ℕ))). chunks_exact_steps s r t) e h).1.0

-- ---- The list

module _ (s : ℕ) (bs : List ℕ) where
  pub after_none : (p : Played) → p ≡ held_seen s (begun s) → p ≡ held_seen s (seen_after s bs 0)
  unfolding seen_after
  after_none p e = e

  pub after_reach : (j : ℕ) (p : Played) → p ≡ held_seen s (seen_after s bs j) → Reachable p.controller
  after_reach j p e = reach s (seen_after s bs j) p e

  pub after_next : (j : ℕ) (p next : Played) (k : Kind) (v n : ℕ) → p ≡ held_seen s (seen_after s bs j)
      → k ≡ kind_of (get_or bs (9 * j) 0) → v ≡ word_at bs (9 * j + 1) → n ≡ word_at bs (9 * j + 5)
      → Plays p next (λ s. called_by s k v n)
      → next ≡ held_seen s (seen_after s bs (j + 1))
  unfolding seen_after called
  after_next j p next k v n e q a b g =
      rw (add-one j)
      (stepped s (seen_after s bs j) p e (λ s. called_by s k v n) next g
      ∙ (λ i. held_seen s (called_by s (q i) (a i) (b i) (seen_after s bs j))))
