-- Calls whose bytes are the lines of plain commands, with ticks between them: what they leave. Assumes nothing.
use Rattle.receiver.specs.declared.Line.{Line}
use Rattle.std.proofs.Common.{Option, None}
use Prim.Native.Nat.{ℕ, zero, suc, ◌-◌, ◌<◌}
use mathlib.Core.Bool.{Bool, true, false, ◌&&◌, false≢true}
use mathlib.Core.List.{List, [], ◌∷◌, ◌++◌}
use mathlib.Core.Path.{◌≡◌, refl, sym, ap, ◌∙◌}
use borrow.Author.Tests.{not-true}
use lib.IntN.{ℤ, pos, ◌+ℤ◌, +ℤ_idr, +ℤ_idl, +ℤ_assoc}
use lib.ListN.{length, get_or}
use Rattle.laws.proofs.Tests.{both}
use Rattle.receiver.specs.Receiver.{receive}
use Rattle.machine.specs.State.{Plan, Machine}
use Rattle.machine.specs.Calls.{Call, byte, tick, state}
use Rattle.machine.specs.Identified.{received}
use Rattle.machine.specs.Roles.{stops_in}
use Rattle.machine.proofs.IdentifiedLaws.{received_is}
use Rattle.host.specs.Writer.{digits_of, has_line, line_of}
use Rattle.host.specs.RoundTrip.{heard_all, ended_after, heard_as}
use Rattle.host.specs.declared.Request.{Request}
use Rattle.host.proofs.LineTrips.{line_trip}
use Rattle.station.specs.Executed.{written, onto, bytes_in, is_refused, is_foreign, is_undisturbed}
use Rattle.station.proofs.DueLaws.{due}
use Rattle.station.proofs.CommandLaws.{is_plain, planned, added, Unstopped, Leaves}
use Rattle.station.proofs.CallLaws.{Undisturbed, ticked, next_line, gathers, ends, no_line}

-- ---- Requests

-- Each has a line and is plain.
unfoldable pub are_plain : List Request → Bool
are_plain [] = true
are_plain (r ∷ rs) = has_line r && (is_plain r.command && are_plain rs)

-- What they add to where axis k will stand, p being the plan before them.
unfoldable pub total : List Request → Plan → ℕ → ℤ
total [] p k = pos 0
total (r ∷ rs) p k = added r.command p k +ℤ total rs (planned r.command p) k

-- ---- Lists taken apart

abbrev tail : {A : Type 0} → List A → List A
tail [] = []
tail (x ∷ xs) = xs

abbrev head_or : {A : Type 0} → A → List A → A
head_or a [] = a
head_or a (x ∷ xs) = x

abbrev is_empty : {A : Type 0} → List A → Bool
is_empty [] = true
is_empty (x ∷ xs) = false

ended_some : (n : ℕ) (x : Option Line) → is_empty (ended_after n x) ≡ false
ended_some zero x = refl
ended_some (suc n) x = refl

none_ends : {A : Type 0} (n : ℕ) (x : Option Line) → [] ≡ ended_after n x → A
none_ends n x e = absurd (false≢true (sym (ended_some n x) ∙ ap is_empty (sym e)))

none_some : {A B : Type 0} (x : B) (l : List B) → [] ≡ x ∷ l → A
none_some x l e = absurd (false≢true (ap is_empty (sym e)))

-- ---- One call of an undisturbed list

undisturbed : (s : ℕ) (h : List Call) (x : Call) (f : List Call) → is_undisturbed s h (x ∷ f) ≡ true
    → Undisturbed s h x × (is_undisturbed s (x ∷ h) f ≡ true)
unfolding is_undisturbed
undisturbed s h x f e =
    let a = both _ _ e in
    let b = both _ _ a.1 in
    let c = both _ _ b.1 in (
      record {
        taken = not-true (is_refused s h x) a.0;
        unstopped = not-true (stops_in (state s h) x) b.0;
        own = not-true (is_foreign s h x) c.0;
      },
      c.1,
    )

-- What a call leaves, and then a list that adds t to where axis k will stand, by the plan that it finds.
then_adds : (m a : Machine) (z : ℤ) (q : Plan) (add : ℕ → ℤ) (t : Plan → ℤ) (k : ℕ) → k < 5 → Leaves m a q add
    → z ≡ due a k +ℤ t a.next → z ≡ due m k +ℤ (add k +ℤ t q)
then_adds m a z q add t k l v e =
    e ∙ ((λ i. v.dues k l i +ℤ t (v.plan i)) ∙ +ℤ_assoc (due m k) (add k) (t q))

then_same : (m a : Machine) (z : ℤ) (t : Plan → ℤ) (k : ℕ) → k < 5 → Leaves m a m.next (λ j. pos 0)
    → z ≡ due a k +ℤ t a.next → z ≡ due m k +ℤ t m.next
then_same m a z t k l v e =
    then_adds m a z m.next (λ j. pos 0) t k l v e ∙ ap (λ (y : ℤ). due m k +ℤ y) (+ℤ_idl (t m.next))

-- ---- Ticks alone

idle : (s : ℕ) (h f : List Call) (k : ℕ) → k < 5 → bytes_in f ≡ [] → is_undisturbed s h f ≡ true → Unstopped (state s h)
    → due (state s (onto f h)) k ≡ due (state s h) k +ℤ pos 0
unfolding onto bytes_in
idle s h [] k l b e u = sym (+ℤ_idr (due (state s h) k))
idle s h (byte c d ∷ f) k l b e u = none_some c (bytes_in f) (sym b)
idle s h (tick w d ∷ f) k l b e u =
    let g = undisturbed s h (tick w d) f e in
    let v = ticked s h w d g.0 u in
    then_same (state s h) (state s (tick w d ∷ h)) _ (λ p. pos 0) k l v
    (idle s (tick w d ∷ h) f k l b g.1 v.unstopped)

-- ---- In a line: q is what is left of r's line, with n characters before its 0D, rs come behind it

tick_line : (s : ℕ) (h : List Call) (w : ℕ) (d : List ℕ) → (state s (tick w d ∷ h)).line ≡ (state s h).line
unfolding received
tick_line s h w d = received_is s (tick w d ∷ h) ∙ sym (received_is s h)

-- Its last byte.
hears : (s : ℕ) (h : List Call) (c : ℕ) (r : Request) (x : ℕ) {l m : List ℕ} → c ∷ l ≡ x ∷ m
    → heard_all (state s h).line (x ∷ []) ≡ ended_after zero (heard_as r (digits_of r.command))
    → (receive (state s h).line c).heard ≡ heard_as r (digits_of r.command)
hears s h c r x b g =
    (λ i. (receive (state s h).line (ap (λ (o : List ℕ). get_or o 0 0) b i)).heard) ∙ ap (head_or None) g

ended : (s : ℕ) (h : List Call) (c : ℕ) (d : List ℕ) → Undisturbed s h (byte c d) → (r : Request) (x : ℕ)
    {l m : List ℕ} → c ∷ l ≡ x ∷ m
    → heard_all (state s h).line (x ∷ []) ≡ ended_after zero (heard_as r (digits_of r.command))
    → is_plain r.command ≡ true → Unstopped (state s h)
    → Leaves (state s h) (state s (byte c d ∷ h)) (planned r.command (state s h).next)
    (added r.command (state s h).next)
ended s h c d y r x b g p u = ends s h c d y _ _ _ _ (hears s h c r x b g) p u

in_line : (s : ℕ) (h f : List Call) (r : Request) (q : List ℕ) (n : ℕ) (rs : List Request) (k : ℕ) → k < 5
    → bytes_in f ≡ q ++ written rs
    → heard_all (state s h).line q ≡ ended_after n (heard_as r (digits_of r.command))
    → is_plain r.command ≡ true → are_plain rs ≡ true → is_undisturbed s h f ≡ true → Unstopped (state s h)
    → due (state s (onto f h)) k ≡ due (state s h) k +ℤ total (r ∷ rs) (state s h).next k
unfolding onto bytes_in written total are_plain
in_line s h [] r [] n rs k l b g p ps e u = none_ends n _ g
in_line s h [] r (c ∷ q) n rs k l b g p ps e u = none_some c _ b
in_line s h (tick w d ∷ f) r q n rs k l b g p ps e u =
    let y = undisturbed s h (tick w d) f e in
    let v = ticked s h w d y.0 u in
    then_same (state s h) (state s (tick w d ∷ h)) _ (λ o. total (r ∷ rs) o k) k l v
    (in_line s (tick w d ∷ h) f r q n rs k l b
    (ap (λ (x : List ℕ). heard_all x q) (tick_line s h w d) ∙ g) p ps y.1 v.unstopped)
in_line s h (byte c d ∷ f) r [] n rs k l b g p ps e u = none_ends n _ g
in_line s h (byte c d ∷ f) r (x ∷ (y ∷ q)) zero rs k l b g p ps e u = none_some _ _ (sym (ap tail g))
in_line s h (byte c d ∷ f) r (x ∷ []) zero [] k l b g p ps e u =
    let y = undisturbed s h (byte c d) f e in
    let v = ended s h c d y.0 r x b g p u in
    then_adds (state s h) (state s (byte c d ∷ h)) _ (planned r.command (state s h).next)
    (added r.command (state s h).next) (λ o. total [] o k) k l v
    (idle s (byte c d ∷ h) f k l (ap tail b) y.1 v.unstopped)
in_line s h (byte c d ∷ f) r (x ∷ []) zero (r' ∷ rs) k l b g p ps e u =
    let y = undisturbed s h (byte c d) f e in
    let v = ended s h c d y.0 r x b g p u in
    let w = both _ _ ps in
    let z = both _ _ w.1 in
    then_adds (state s h) (state s (byte c d ∷ h)) _ (planned r.command (state s h).next)
    (added r.command (state s h).next) (λ o. total (r' ∷ rs) o k) k l v
    (in_line s (byte c d ∷ h) f r' (line_of r') (length (line_of r') - 1) rs k l (ap tail b)
    (ap (λ (o : List ℕ). heard_all o (line_of r')) (no_line s h c d y.0 _ _ _ _ (hears s h c r x b g))
    ∙ line_trip.heard r' w.0) z.0 z.1 y.1 v.unstopped)
in_line s h (byte c d ∷ f) r (x ∷ q) (suc n) rs k l b g p ps e u =
    let y = undisturbed s h (byte c d) f e in
    let same = ap (λ (o : List ℕ). get_or o 0 0) b in
    let hears = (λ i. heard_all (state s h).line (same i ∷ q)) ∙ g in
    let v = gathers s h c d y.0 (ap (head_or None) hears) u in
    then_same (state s h) (state s (byte c d ∷ h)) _ (λ o. total (r ∷ rs) o k) k l v
    (in_line s (byte c d ∷ h) f r q n rs k l (ap tail b)
    (ap (λ (o : List ℕ). heard_all o q) (next_line s h c d y.0) ∙ ap tail hears) p ps y.1 v.unstopped)

-- ---- Whole lines, with no character before the first

pub in_lines : (s : ℕ) (h f : List Call) (rs : List Request) (k : ℕ) → k < 5 → (state s h).line ≡ []
    → bytes_in f ≡ written rs → are_plain rs ≡ true → is_undisturbed s h f ≡ true → Unstopped (state s h)
    → due (state s (onto f h)) k ≡ due (state s h) k +ℤ total rs (state s h).next k
unfolding written total are_plain
in_lines s h f [] k l n b ps e u = idle s h f k l b e u
in_lines s h f (r ∷ rs) k l n b ps e u =
    let w = both _ _ ps in
    let z = both _ _ w.1 in
    in_line s h f r (line_of r) (length (line_of r) - 1) rs k l b
    (ap (λ (o : List ℕ). heard_all o (line_of r)) n ∙ line_trip.heard r w.0) z.0 z.1 e u
