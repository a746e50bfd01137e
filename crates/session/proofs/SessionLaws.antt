-- Laws of the session: it begins as one that calls made, and the next session is again one that calls made.
-- Assumes nothing.
use Rattle.std.proofs.Common.{Option, Some, None}
use Prim.Native.Nat.{ℕ}
use mathlib.Core.List.{List, [], ◌∷◌, ◌++◌}
use mathlib.Core.Path.{◌≡◌, refl, sym, ap, subst, ◌∙◌}
use lib.Dec.{ltb, eqb}
use lib.ListN.{length}
use Rattle.laws.proofs.Pick.{by_bool}
use Rattle.machine.specs.State.{Machine}
use Rattle.machine.specs.Calls.{Call, byte, run, state, ticks, buffer, bytes}
use Rattle.host.specs.Watch.{watch_off}
use Rattle.controller.specs.declared.state.Controller.{Controller}
use Rattle.controller.specs.Held.{held}
use Rattle.controller.specs.Reach.{Reachable}
use Rattle.session.specs.declared.asked.Ticks.{Ticks}
use Rattle.session.specs.declared.kept.Kept.{Kept}
use Rattle.session.specs.declared.state.Place.TheVariants.{Start}
use Rattle.session.specs.declared.state.Session.{Session}
use Rattle.session.specs.declared.state.Taken.{Taken}
use Rattle.session.specs.Asked.{letter_t, asked_of}
use Rattle.session.specs.Kept.{keeping}
use Rattle.session.specs.Session.{
  Place,
  starting,
  sending,
  asking,
  Bench,
  Answer,
  fresh,
  sends,
  keeps,
  asks,
  ended_at,
  character_at,
  taken,
  finished,
  held_bench,
  unless,
  Told,
  Running,
  Runs,
}
use Rattle.session.proofs.SumLaws.{past_state}

pub fresh_told : (c : Controller) (k : Kept) → c ≡ held fresh.machine → k ≡ keeping []
    → (record { controller = c; kept = k; place = Start } ≡ held_bench fresh)
    × Running (record { controller = c; kept = k; place = Start })
fresh_told c k p q = (e, record { switch = 0; history = bytes watch_off []; place = starting; made = sym e })
  where
    e : record { controller = c; kept = k; place = Start } ≡ held_bench fresh
    e = λ i. record { controller = p i; kept = q i; place = Start }

-- The controller of a running session is reachable.
pub reached : (s : Session) → Running s → Reachable s.controller
reached s r = record {
  switch = r.switch;
  history = r.history;
  made = ap (λ (x : Session). x.controller) r.made;
}

-- ---- the next session

-- Some list of calls and some place make the bench x.
pub record Lives (x : Bench) : Type 0 where
  pub switch : ℕ
  pub history : List Call
  pub place : Place
  pub is : record { machine = state switch history; place = place } ≡ x

-- What holds of every bench that the session s holds holds of x.
pub runs_at : (s : Session) (P : Bench → Type 0) → Runs s P → (x : Bench) → Lives x → held_bench x ≡ s → P x
runs_at s P r x l e = subst P l.is (r l.switch l.history l.place (ap held_bench l.is ∙ e))

pub lives_running : (x : Bench) → Lives x → Running (held_bench x)
lives_running x l = record {
  switch = l.switch;
  history = l.history;
  place = l.place;
  made = ap held_bench l.is;
}

module _ (w : ℕ) (h : List Call) where
  asks_lives : (a : Option Ticks) → Lives (asks (state w h) a).bench
  asks_lives None = record { switch = w; history = h; place = starting; is = refl }
  asks_lives (Some t) = record {
    switch = w;
    history = ticks t.count t.word h;
    place = starting;
    is = ap (λ (m : Machine). record { machine = m; place = starting }) (past_state w t.word h t.count);
  }

  sends_lives : (b : ℕ) (p : Place) → Lives (sends (state w h) b p).bench
  unfolding run
  sends_lives b p = record { switch = w; history = byte b buffer ∷ h; place = p; is = refl }

  keeps_lives : (l : List ℕ) → Lives (keeps (state w h) l).bench
  keeps_lives l = record { switch = w; history = h; place = asking l; is = refl }

  pub rests_lives : (p : Place) → Lives (record { machine = state w h; place = p })
  rests_lives p = record { switch = w; history = h; place = p; is = refl }

  ended_lives : (p : Place) → Lives (ended_at (state w h) p).bench
  ended_lives starting = sends_lives 13 starting
  ended_lives sending = sends_lives 13 starting
  ended_lives (asking l) = asks_lives (asked_of l)

  character_lives : (b : ℕ) (p : Place) → Lives (character_at (state w h) p b).bench
  character_lives b starting =
      by_bool (λ (a : Answer). Lives a.bench) (eqb b letter_t) _ _ (λ e. keeps_lives (b ∷ []))
      (λ e. sends_lives b sending)
  character_lives b sending = sends_lives b sending
  character_lives b (asking l) = keeps_lives (l ++ (b ∷ []))

  pub taken_lives : (b : ℕ) (p : Place) → Lives (taken (record { machine = state w h; place = p }) b).bench
  taken_lives b p =
      by_bool (λ (a : Answer). Lives a.bench) (eqb b 10) _ _ (λ e. ended_lives p) (λ e. character_lives b p)

  finished_lives : (p : Place) → Lives (finished (record { machine = state w h; place = p })).bench
  finished_lives starting = rests_lives starting
  finished_lives sending = ended_lives sending
  finished_lives (asking l) = ended_lives (asking l)

  unless_lives : (d : List ℕ) (p : Place) (a : Answer) → Lives a.bench
      → Lives (unless d (record { machine = state w h; place = p }) a).bench
  unless_lives d p a r =
      by_bool (λ (x : Answer). Lives x.bench) (ltb (length d) 120) _ _ (λ e. rests_lives p) (λ e. r)

-- What holds of every bench that the session holds, and that the next session is again one that calls made.
module _ (s : Session) (r : Taken) (x d : List ℕ) (run : Running s) where
  next_running : (f : Bench → Answer)
      → Runs s (λ y. Told r x d (unless d y (f y)))
      → Lives (f (record { machine = state run.switch run.history; place = run.place })).bench
      → Running r.session
  next_running f t l =
      subst Running (sym (ap (λ (y : Taken). y.session) (t run.switch run.history run.place run.made).0))
      (lives_running _ (unless_lives run.switch run.history d run.place _ l))

  pub taken_told : (b : ℕ) → Runs s (λ y. Told r x d (unless d y (taken y b)))
      → Runs s (λ y. Told r x d (unless d y (taken y b))) × Running r.session
  taken_told b t =
      (t, next_running (λ y. taken y b) t (taken_lives run.switch run.history b run.place))

  pub finished_told : Runs s (λ y. Told r x d (unless d y (finished y)))
      → Runs s (λ y. Told r x d (unless d y (finished y))) × Running r.session
  finished_told t = (t, next_running finished t (finished_lives run.switch run.history run.place))
