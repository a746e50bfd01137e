-- The characters of a line and the byte behind them: each once and in order. Assumes nothing.
use Prim.Native.Nat.{◌≤◌, ◌<◌}
use native.Mathlib.Omega.{arith}
use lib.ListN.{length}
use Rattle.session.proofs.AfterLaws.{after_one, after_stretch}
use Rattle.console.proofs.LineLaws.{line_whole, line_part, whole_stands, part_stands}
use Rattle.console.proofs.pass_line.Goals as goal

pub gather-gathered-requires : goal.gather-gathered-requires
gather-gathered-requires c = c.requires.running

pub overflow_add-result : goal.overflow_add-result
overflow_add-result c = omega arith

pub bounds-bytes-n : goal.bounds-bytes-n
bounds-bytes-n c = omega arith

pub pass_byte-printed-requires : goal.pass_byte-printed-requires
pass_byte-printed-requires c =
    record {
      running = c.gather-gathered.ensures.running;
      at_in_bounds = c.requires.at_in_bounds;
    }

pub returns-then-n-bytes : goal.returns-then-n-bytes
returns-then-n-bytes c =
    let s = c.args.s in
    let bs = c.args.bytes.now in
    let f = c.gather-gathered.result in
    let gathered = c.gather-gathered.ensures.runs in
    let p = c.pass_byte-printed in
    let k : f.count < length bs = omega (arith, c.if-n-bytes.true) in
    let a = after_stretch s f bs c.requires.running gathered in
    record {
      running_2 = p.ensures.running_2;
      length_in_bounds = p.ensures.length_in_bounds;
      count_in_bounds = (omega (arith, k), λ (z : 0 < length bs). omega arith);
      runs = after_one s f.session p.result.session bs f.count k a.1 p.ensures.runs;
      runs_2 = whole_stands s f bs c.requires.running gathered c.args.at p.result.length p.new.out c.args.out.now k a.1
          p.ensures.runs_2;
      count_value = line_whole s f bs c.requires.running gathered k;
    }

pub returns : goal.returns
returns c =
    let s = c.args.s in
    let bs = c.args.bytes.now in
    let f = c.gather-gathered.result in
    let gathered = c.gather-gathered.ensures.runs in
    let k : length bs ≤ f.count = c.if-n-bytes.false in
    let a = after_stretch s f bs c.requires.running gathered in
    record {
      running_2 = c.gather-gathered.ensures.running;
      length_in_bounds = omega (arith, c.requires.at_in_bounds);
      count_in_bounds = (a.0, λ (z : 0 < length bs). omega (arith, k, z));
      runs = a.1;
      runs_2 = part_stands s f bs c.requires.running gathered c.args.at c.args.out.now;
      count_value = line_part s f bs c.requires.running gathered k;
    }
