-- What a whole line is answered with: what readout and phrases promise of blocks and of words, for the lines that the
-- desk takes for them, and the lines of a station's command. Assumes nothing.
use Prim.Native.Nat.{ℕ, ◌<◌}
use native.Mathlib.Omega.{arith}
use mathlib.Core.Bool.{true, false, ◌&&◌}
use mathlib.Core.List.{List, [], ◌∷◌, ◌++◌}
use mathlib.Core.Path.{◌≡◌, ap, ◌∙◌}
use borrow.Author.Tests.{ltb-true, eqb-true, ne_eqb}
use lib.Dec.{ltb, eqb}
use lib.ListN.{length}
use Rattle.laws.proofs.Tests.{both}
use Rattle.digits.specs.Digits.{end_byte}
use Rattle.receiver.specs.Receiver.{before_end}
use Rattle.session.specs.Asked.{asked_of}
use Rattle.screen.specs.Asked as screen
use Rattle.station.specs.Executed.{written}
use Rattle.station.specs.Station.{number_of, values_in}
use Rattle.station.proofs.WritableLaws.{writable}
use Rattle.sentences.specs.Places as K
use Rattle.sentences.specs.Sentences.{place_of, turned_text}
use Rattle.phrases.specs.Meanings.{word}
use Rattle.phrases.specs.Phrases.{words_text}
use Rattle.phrases.proofs.SameLineLaws.{same_line}
use Rattle.phrases.proofs.TickLineLaws.{tick_line}
use Rattle.phrases.proofs.TrialLineLaws.{trial_line}
use Rattle.readout.proofs.ReplyLaws.{replies_told}
use Rattle.wording.specs.Stations.{is_station, command_in, lines_text, station_text}
use Rattle.wording.specs.Wording.{answer_text, answer_of}
use Rattle.wording.specs.Promises.{is_converted, Wordy, entered, Told}
use Rattle.wording.proofs.StationLaws.{block_none, placed_none, command_none}
use Rattle.wording.proofs.StationLineLaws.{lines_entered}
use Rattle.wording.proofs.WordingLaws.{station_is, block_is, words_are}

wordy : (l : List ℕ) → is_station l ≡ false → Wordy l → answer_text l ≡ words_text l
wordy l e h = words_are l h.0 e h.1 h.2

-- A line of `ticks` or of `trial` is no command of a station.
ticks_none : (l : List ℕ) → place_of (word 0 l) ≡ K.ticks → is_station l ≡ false
ticks_none l e = placed_none l K.ticks e (λ (q : ◌≡◌ {A = ℕ} 21 23). omega (arith, q))

trial_none : (l : List ℕ) → place_of (word 0 l) ≡ K.trial → is_station l ≡ false
trial_none l e = placed_none l K.trial e (λ (q : ◌≡◌ {A = ℕ} 22 23). omega (arith, q))

-- ---- a station's command

converted : (l : List ℕ) → is_converted l ≡ true → entered (answer_of l) ≡ written (values_in (command_in l))
unfolding station_text
converted l h =
    let s = both (ltb (length l) 100) (is_station l && eqb (number_of (command_in l)) 0) h in
    let q = both (is_station l) (eqb (number_of (command_in l)) 0) s.1 in
    let w = writable (command_in l) in
    let e : answer_text l ≡ lines_text (values_in (command_in l)) =
    station_is l (ltb-true (length l) 100 s.0) q.0 ∙ rw q.1 in
    ap (λ (x : List ℕ). entered (x ++ (10 ∷ []))) e
    ∙ lines_entered (values_in (command_in l)) (w.some (eqb-true (number_of (command_in l)) 0 q.1)) w.lined

refused : (l : List ℕ) → length l < 100 → is_station l ≡ true → (number_of (command_in l) ≡ 0 → ⊥)
    → answer_text l ≡ turned_text (number_of (command_in l))
unfolding station_text
refused l h e n = station_is l h e ∙ rw (ne_eqb (number_of (command_in l)) 0 n)

-- ---- all of it

pub told : Told
told = record {
  reply = λ s f h.
      let t = replies_told.blocks s f h in
      block_is (before_end s) (omega (arith, t.short)) (block_none s f h) t.taken ∙ t.words;
  command = λ l c h m q.
      ap (λ (t : List ℕ). t ++ (end_byte ∷ [])) (wordy l (command_none l c m) h) ∙ same_line.said l c m q;
  ticks = λ l w h k n a b q r. ap asked_of (wordy l (ticks_none l k) h) ∙ tick_line.said l w k n a b q r;
  ticks_alone = λ l h k n a b. ap asked_of (wordy l (ticks_none l k) h) ∙ tick_line.alone l k n a b;
  trial = λ l k n w h f e a b d x y z.
      ap screen.asked_of (wordy l (trial_none l f) h) ∙ trial_line.said l k n w f e a b d x y z;
  trial_wordless = λ l k n h f e a b x y.
      ap screen.asked_of (wordy l (trial_none l f) h) ∙ trial_line.wordless l k n f e a b x y;
  trial_alone = λ l k h f e a x. ap screen.asked_of (wordy l (trial_none l f) h) ∙ trial_line.alone l k f e a x;
  station = converted;
  station_refused = refused;
}
