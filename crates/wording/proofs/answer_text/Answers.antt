-- What a line is, asked in order, and what is printed to it. Assumes nothing.
use Prim.Native.Nat.{ℕ, ◌<◌}
use native.Mathlib.Omega.{arith}
use mathlib.Core.Bool.{false}
use mathlib.Core.List.{List}
use mathlib.Core.Path.{◌≡◌, sym, ap, ◌∙◌}
use lib.ListN.{length}
use Rattle.text.specs.Text.{writes}
use Rattle.text.proofs.TextLaws.{joined}
use Rattle.machine.specs.Calls.{chars}
use Rattle.wording.specs.Stations.{is_station}
use Rattle.wording.proofs.WordingLaws.{overlong_is, station_is, block_is, sums_are, words_are}
use Rattle.wording.proofs.answer_text.Goals as goal

pub returns-then-line-ge-OVERLONG : goal.returns-then-line-ge-OVERLONG
returns-then-line-ge-OVERLONG c =
    c.overlong.ensures
    ∙ ap (λ (x : List ℕ). writes c.args.text x)
    (sym (overlong_is c.args.line.now (omega (arith, c.if-line-ge-OVERLONG.true))))

pub returns-then-is_station : goal.returns-then-is_station
returns-then-is_station c =
    c.station.ensures
    ∙ ap (λ (x : List ℕ). writes c.args.text x)
    (sym (station_is c.args.line.now (omega (arith, c.if-line-ge-OVERLONG.false))
    (sym c.is_station.ensures ∙ c.if-is_station.true)))

-- Past the second test the line is short and no command.
pub returns-then-is_block : goal.returns-then-is_block
returns-then-is_block c =
    let l = c.args.line.now in
    let short : length l < 100 = omega (arith, c.if-line-ge-OVERLONG.false) in
    let none : is_station l ≡ false = sym c.is_station.ensures ∙ c.if-is_station.false in
    c.block.ensures.value
    ∙ ap (λ (x : List ℕ). writes c.args.text x)
    (sym (block_is l short none (sym c.is_block.ensures ∙ c.if-is_block.true)))

pub returns-then-are_sums : goal.returns-then-are_sums
returns-then-are_sums c =
    let l = c.args.line.now in
    let short : length l < 100 = omega (arith, c.if-line-ge-OVERLONG.false) in
    let none : is_station l ≡ false = sym c.is_station.ensures ∙ c.if-is_station.false in
    joined c.args.text (chars "pulses ") l c.characters.ensures c.characters-then-are_sums.ensures
    ∙ ap (λ (x : List ℕ). writes c.args.text x)
    (sym (sums_are l short none
    (sym c.is_block.ensures ∙ c.if-is_block.false)
    (sym c.are_sums.ensures ∙ c.if-are_sums.true)))

pub returns : goal.returns
returns c =
    let l = c.args.line.now in
    let short : length l < 100 = omega (arith, c.if-line-ge-OVERLONG.false) in
    let none : is_station l ≡ false = sym c.is_station.ensures ∙ c.if-is_station.false in
    c.words.ensures.value
    ∙ ap (λ (x : List ℕ). writes c.args.text x)
    (sym (words_are l short none
    (sym c.is_block.ensures ∙ c.if-is_block.false)
    (sym c.are_sums.ensures ∙ c.if-are_sums.false)))
