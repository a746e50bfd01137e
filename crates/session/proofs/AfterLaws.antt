-- The bench after a list of bytes: one byte more, and that calls made it. Assumes nothing.
use Prim.Native.Nat.{ℕ, ◌+◌, ◌≤◌, ◌<◌}
use native.Mathlib.Omega.{arith}
use native.Mathlib.Numerals.{add-one}
use mathlib.Core.List.{List, [], ◌∷◌, ◌++◌}
use mathlib.Core.Path.{◌≡◌, refl, sym, ap, subst, ◌∙◌}
use lib.ListN.{length, get_or, take, drop}
use lib.Seq.{take-suc, take-length, take-add}
use Rattle.receiver.proofs.Laws.{before_take, before_short}
use Rattle.machine.specs.Calls.{state}
use Rattle.session.specs.declared.state.Gathered.{Gathered}
use Rattle.session.specs.declared.state.Session.{Session}
use Rattle.session.specs.Session.{Bench, taken, held_bench, Running, Runs}
use Rattle.session.specs.Lines.{after}
use Rattle.session.specs.Stretch.{is_mark, stretch, held_stretch}
use Rattle.session.proofs.SessionLaws.{Lives, runs_at, rests_lives, taken_lives}

-- The last byte of a list is taken after those before it.
after_snoc : (l : List ℕ) (x : Bench) (b : ℕ) → after x (l ++ (b ∷ [])) ≡ (taken (after x l) b).bench
unfolding after
after_snoc [] x b = refl
after_snoc (c ∷ l) x b = after_snoc l (taken x c).bench b

after_next : (x : Bench) (bs : List ℕ) (i : ℕ) → i < length bs
    → after x (take (i + 1) bs) ≡ (taken (after x (take i bs)) (get_or bs i 0)).bench
after_next x bs i h = rw (add-one i, take-suc bs i 0 h) (after_snoc (take i bs) x (get_or bs i 0))

taken_on : (x : Bench) (b : ℕ) → Lives x → Lives (taken x b).bench
taken_on x b l =
    subst (λ (y : Bench). Lives (taken y b).bench) l.is (taken_lives l.switch l.history b l.place)

pub after_lives : (bs : List ℕ) (x : Bench) → Lives x → Lives (after x bs)
unfolding after
after_lives [] x l = l
after_lives (b ∷ bs) x l = after_lives bs (taken x b).bench (taken_on x b l)

-- What holds of every bench that a session holds holds of the bench after the bytes that led to it.
pub runs_after : (s t : Session) (l : List ℕ) (P : Bench → Type 0) → Runs s (λ x. t ≡ held_bench (after x l)) → Runs t P
    → Runs s (λ x. P (after x l))
runs_after s t l P past next w h p e =
    runs_at t P next _ (after_lives l _ (rests_lives w h p)) (sym (past w h p e))

-- ---- the bytes of a slice, one after another

pub after_none : (s : Session) (bs : List ℕ) → Runs s (λ x. s ≡ held_bench (after x (take 0 bs)))
unfolding after
after_none s bs w h p e = sym e

-- One byte more, on every bench that the first session holds.
pub after_one : (s t r : Session) (bs : List ℕ) (i : ℕ) → i < length bs
    → Runs s (λ x. t ≡ held_bench (after x (take i bs)))
    → Runs t (λ x. r ≡ held_bench (taken x (get_or bs i 0)).bench)
    → Runs s (λ x. r ≡ held_bench (after x (take (i + 1) bs)))
after_one s t r bs i k past next w h p e =
    runs_after s t (take i bs) (λ x. r ≡ held_bench (taken x (get_or bs i 0)).bench) past next w h p e
    ∙ ap held_bench (sym (after_next _ bs i k))

-- Some bytes more.
pub after_both : (l k : List ℕ) (x : Bench) → after (after x l) k ≡ after x (l ++ k)
unfolding after
after_both [] k x = refl
after_both (b ∷ l) k x = after_both l k (taken x b).bench

pub after_more : (s t r : Session) (bs : List ℕ) (i n : ℕ) → Runs s (λ x. t ≡ held_bench (after x (take i bs)))
    → Runs t (λ x. r ≡ held_bench (after x (take n (drop i bs))))
    → Runs s (λ x. r ≡ held_bench (after x (take (i + n) bs)))
after_more s t r bs i n past next w h p e =
    runs_after s t (take i bs) (λ x. r ≡ held_bench (after x (take n (drop i bs)))) past next w h p e
    ∙ ap held_bench (after_both (take i bs) (take n (drop i bs)) _
    ∙ ap (after (record { machine = state w h; place = p })) (sym (take-add i n bs)))

-- What a stretch of characters leaves.
pub after_stretch : (s : Session) (g : Gathered) (bs : List ℕ) → Running s → Runs s (λ x. g ≡ held_stretch x bs)
    → (g.count ≤ length bs) × Runs s (λ x. g.session ≡ held_bench (after x (take g.count bs)))
after_stretch s g bs run q = (
  omega (arith, n, before_short is_mark bs),
  (λ w h p e. ap (λ (y : Gathered). y.session) (q w h p e)
      ∙ ap (λ (l : List ℕ). held_bench (after (record { machine = state w h; place = p }) l))
      (sym (ap (λ (k : ℕ). take k bs) n ∙ before_take is_mark bs))),
)
  where
    n : g.count ≡ length (stretch bs)
    n = ap (λ (y : Gathered). y.count) (q run.switch run.history run.place run.made)

pub after_all : (s r : Session) (bs : List ℕ) (i : ℕ) → i ≡ length bs
    → Runs s (λ x. r ≡ held_bench (after x (take i bs))) → Runs s (λ x. r ≡ held_bench (after x bs))
after_all s r bs i n past =
    subst (λ (l : List ℕ). Runs s (λ x. r ≡ held_bench (after x l))) (ap (λ (k : ℕ). take k bs) n ∙ take-length bs) past
