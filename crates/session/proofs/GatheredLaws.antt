-- A stretch of characters on what is held: all that `gather` promises. Assumes nothing.
use Prim.Native.Nat.{ℕ, ◌<◌}
use native.Mathlib.Omega.{arith}
use mathlib.Core.Bool.{Bool, true, false}
use mathlib.Core.List.{List, [], ◌∷◌, ◌++◌}
use mathlib.Core.Path.{◌≡◌, refl, sym, ap, subst, ◌∙◌}
use lib.ListN.{length, get_or, take}
use Rattle.receiver.specs.Receiver.{before_end}
use Rattle.receiver.proofs.Laws.{before_take}
use Rattle.machine.specs.Calls.{state, from, bytes}
use Rattle.controller.specs.declared.state.Gathered as controller
use Rattle.controller.specs.Held.{held, held_gathered}
use Rattle.controller.specs.Reach.{Made}
use Rattle.session.specs.declared.kept.Kept.{Kept}
use Rattle.session.specs.declared.state.Place.TheVariants.{Sending, Asking}
use Rattle.session.specs.declared.state.Session.{Session}
use Rattle.session.specs.Kept.{keeping, Keeping}
use Rattle.session.specs.Session.{held_place, kept_in, held_bench, Running, Runs}
use Rattle.session.specs.Lines.{after}
use Rattle.session.specs.Stretch.{is_mark, stretch, held_stretch, Silent, keeps_of}
use Rattle.session.proofs.SessionLaws.{rests_lives, lives_running}
use Rattle.session.proofs.AfterLaws.{after_lives}
use Rattle.session.proofs.StretchLaws.{silent, stretch_sent, sends_on, keeps_on, none_kept}

nothing : (l : List ℕ) → length l ≡ 0 → l ≡ []
nothing [] e = refl
nothing (b ∷ l) e = absurd (omega arith)

module _ (s : Session) (bs : List ℕ) where
  module _ (n : ℕ) (k : n ≡ length (stretch bs)) where
    -- No character.
    pub none_gathered : n ≡ 0 → Runs s (λ x. s ≡ held_bench (after x (stretch bs)))
    unfolding after
    none_gathered z w h p e =
        sym e ∙ ap (λ (l : List ℕ). held_bench (after (record { machine = state w h; place = p }) l))
        (sym (nothing (stretch bs) (sym k ∙ z)))

    -- Of a line that begins with T.
    pub kept_gathered : (t : Bool) (more : Kept) → t ≡ keeps_of s.place (get_or bs 0 0) → t ≡ true → 0 < n
        → Keeping s.kept (λ l. more ≡ keeping (l ++ take n bs))
        → Runs s (λ x. record { controller = s.controller; kept = more; place = Asking }
        ≡ held_bench (after x (stretch bs)))
    kept_gathered t more q y z r w h p e =
        (λ i. record {
          controller = sym (ap (λ (x : Session). x.controller) e) i;
          kept = (r (kept_in p) (ap (λ (x : Session). x.kept) e)
              ∙ ap (λ (l : List ℕ). keeping (kept_in p ++ l)) (ap (λ (j : ℕ). take j bs) k ∙ before_take is_mark bs)) i;
          place = Asking;
        })
        ∙ ap held_bench (sym (keeps_on (state w h) p bs (omega (arith, k))
        (ap (λ (x : Session). keeps_of x.place (get_or bs 0 0)) e ∙ (sym q ∙ y))))

    -- Of any other line.
    pub sent_gathered : (t : Bool) (g : controller.Gathered) → t ≡ keeps_of s.place (get_or bs 0 0) → t ≡ false → 0 < n
        → Made s.controller (λ m. g ≡ held_gathered m (take n bs))
        → Runs s (λ x. record { controller = g.controller; kept = s.kept; place = Sending }
        ≡ held_bench (after x (stretch bs)))
    sent_gathered t g q y z r w h p e =
        let v : keeps_of (held_place p) (get_or bs 0 0) ≡ false =
        ap (λ (x : Session). keeps_of x.place (get_or bs 0 0)) e ∙ (sym q ∙ y) in
        (λ i. record {
          controller = (ap (λ (x : controller.Gathered). x.controller)
              (r w h (ap (λ (x : Session). x.controller) e))
              ∙ ap (λ (l : List ℕ). held (from (state w h) (bytes l [])))
              (ap before_end (ap (λ (j : ℕ). take j bs) k ∙ before_take is_mark bs) ∙ stretch_sent bs)) i;
          kept = (sym (ap (λ (x : Session). x.kept) e)
              ∙ ap keeping (none_kept p (get_or bs 0 0) v)) i;
          place = Sending;
        })
        ∙ ap held_bench (sym (sends_on (state w h) p bs (omega (arith, k)) v))

    -- All that `gather` promises.
    pub gathered_told : (t : Session) → Running s → Runs s (λ x. t ≡ held_bench (after x (stretch bs)))
        → Runs s (λ x. record { session = t; count = n } ≡ held_stretch x bs)
        × (Runs s (λ x. Silent x (stretch bs)) × Running t)
    gathered_told t r q = (
      (λ w h p e i. record { session = q w h p e i; count = k i }),
      (
        (λ w h p e. silent bs (record { machine = state w h; place = p })),
        subst Running (sym (q r.switch r.history r.place r.made))
            (lives_running _ (after_lives (stretch bs) _ (rests_lives r.switch r.history r.place))),
      ),
    )
