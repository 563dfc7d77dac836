use Rattle.std.proofs.Common.{◌≡◌, ◌∙◌, ◌≤◌, ◌<◌, ap, sym, length, false, arith}
use Rattle.sync_client.specs.Ending.{handled}
use Rattle.sync_client.specs.Seen.{Beside, beside, seen}
use Rattle.sync_client.specs.Session.{is_whole}
use Rattle.sync_client.specs.Tiles.{size_of_pieces}
use Rattle.sync_client.proofs.Rising.{whole_seen}
use Rattle.sync_client.proofs.Turning.{fits}
use Rattle.sync_client.proofs.session.collect.Goals as goal

pub returns-in-Err-clause-collects : goal.returns-in-Err-clause-collects
returns-in-Err-clause-collects g c o r k = c.in-Err.ensures.filled o (beside 0 (g.Ts.Targets.answers c.args.updates.now)) r k

pub returns-in-Err-clause-serving : goal.returns-in-Err-clause-serving
returns-in-Err-clause-serving g c held first left sent h less k = c.in-Err.ensures.serving held first left (beside 0 (g.Ts.Targets.answers c.args.updates.now)) sent h k

pub loop-buffer-init : goal.loop-buffer-init
loop-buffer-init g c =
    record {
      room = omega arith;
      most = omega arith;
      paired = c.in-Ok.ensures.paired;
      tiles = c.fill.ensures.tiles;
      strays = omega arith;
      fewer = omega arith;
      exact = λ e. c.in-Ok.ensures.exact e;
      steady = λ e. c.in-Ok.ensures.steady e;
      came = λ o r k. c.in-Ok.ensures.filled o (beside 0 (g.Ts.Targets.answers c.args.updates.now)) r k;
      nothing = c.in-Ok.ensures.nothing;
      serving = λ held first left sent h less k. c.in-Ok.ensures.serving held first left (beside 0 (g.Ts.Targets.answers c.args.updates.now)) sent h k;
    }

pub returns-in-Err-handle-clause-collects : goal.returns-in-Err-handle-clause-collects
returns-in-Err-handle-clause-collects g c o r k =
    let i = c.loop-buffer.invariant in
    let now : Beside = beside c.loop-buffer.strays (g.Ts.Targets.answers c.loop-buffer.updates) in
    let more : is_whole (seen c.loop-buffer.machine c.loop-buffer.collector now) ≡ false = whole_seen c.loop-buffer.machine c.loop-buffer.collector now ∙ (sym c.is_complete.ensures.value ∙ c.loop-buffer-test.true) in
    let k2 = i.came o r k in
    c.in-Err-handle.ensures.handled o r k2.0 k2.1 more

pub returns-in-Err-handle-clause-serving : goal.returns-in-Err-handle-clause-serving
returns-in-Err-handle-clause-serving g c held first left sent h less k =
    let i = c.loop-buffer.invariant in
    let now : Beside = beside c.loop-buffer.strays (g.Ts.Targets.answers c.loop-buffer.updates) in
    let more : is_whole (seen c.loop-buffer.machine c.loop-buffer.collector now) ≡ false = whole_seen c.loop-buffer.machine c.loop-buffer.collector now ∙ (sym c.is_complete.ensures.value ∙ c.loop-buffer-test.true) in
    let fewer = c.handle.ensures.fewer in
    let reach : length left ≤ length (g.Ts.Targets.answers c.loop-buffer.updates) = omega (arith, less, fewer) in
    c.in-Err-handle.ensures.serving held first left sent h less (i.serving held first left sent h reach k) (i.nothing now) more

pub returns-in-Err-fill-clause-collects : goal.returns-in-Err-fill-clause-collects
returns-in-Err-fill-clause-collects g c o r k =
    let i = c.loop-buffer.invariant in
    let now : Beside = beside c.loop-buffer.strays (g.Ts.Targets.answers c.loop-buffer.updates) in
    let more : is_whole (seen c.loop-buffer.machine c.loop-buffer.collector now) ≡ false = whole_seen c.loop-buffer.machine c.loop-buffer.collector now ∙ (sym c.is_complete.ensures.value ∙ c.loop-buffer-test.true) in
    let k2 = i.came o r k in
    c.in-Err-fill.ensures.filled o (beside c.handle.new.strays (g.Ts.Targets.answers c.handle.new.updates)) r (c.in-Ok-handle.ensures.handled o r k2.0 k2.1 more)

pub returns-in-Err-fill-clause-serving : goal.returns-in-Err-fill-clause-serving
returns-in-Err-fill-clause-serving g c held first left sent h less k =
    let i = c.loop-buffer.invariant in
    let now : Beside = beside c.loop-buffer.strays (g.Ts.Targets.answers c.loop-buffer.updates) in
    let more : is_whole (seen c.loop-buffer.machine c.loop-buffer.collector now) ≡ false = whole_seen c.loop-buffer.machine c.loop-buffer.collector now ∙ (sym c.is_complete.ensures.value ∙ c.loop-buffer-test.true) in
    let fewer = c.handle.ensures.fewer in
    let reach : length left ≤ length (g.Ts.Targets.answers c.loop-buffer.updates) = omega (arith, less, fewer) in
    c.in-Err-fill.ensures.serving held first left (beside c.handle.new.strays (g.Ts.Targets.answers c.handle.new.updates)) sent h (c.in-Ok-handle.ensures.serving held first left sent h less (i.serving held first left sent h reach k) (i.nothing now) more)

pub loop-buffer-preserved : goal.loop-buffer-preserved
loop-buffer-preserved g c =
    let i = c.loop-buffer.invariant in
    let now : Beside = beside c.loop-buffer.strays (g.Ts.Targets.answers c.loop-buffer.updates) in
    let more : is_whole (seen c.loop-buffer.machine c.loop-buffer.collector now) ≡ false = whole_seen c.loop-buffer.machine c.loop-buffer.collector now ∙ (sym c.is_complete.ensures.value ∙ c.loop-buffer-test.true) in
    let fewer = c.handle.ensures.fewer in
    record {
      room = omega (arith, i.room, c.handle.auto.buffer);
      most = omega (arith, i.most, c.handle.auto.buffer);
      paired = c.in-Ok-fill.ensures.paired;
      tiles = c.fill-in-loop-buffer.ensures.tiles;
      strays = c.in-Ok-handle.ensures.strays i.strays;
      fewer = omega (arith, i.fewer, fewer);
      exact = λ e. c.in-Ok-fill.ensures.exact e ∙ (c.in-Ok-handle.ensures.exact e ∙ i.exact e);
      steady = λ e.
          let a = i.steady e in
          let b = c.in-Ok-handle.ensures.steady a.0 in
          let d = c.in-Ok-fill.ensures.steady b.0 in
          (d.0, d.1 ∙ (b.1 ∙ a.1));
      came = λ o r k.
          let k2 = i.came o r k in
          c.in-Ok-fill.ensures.filled o (beside c.handle.new.strays (g.Ts.Targets.answers c.handle.new.updates)) r (c.in-Ok-handle.ensures.handled o r k2.0 k2.1 more);
      nothing = c.in-Ok-fill.ensures.nothing;
      serving = λ held first left sent h less k.
          let reach : length left ≤ length (g.Ts.Targets.answers c.loop-buffer.updates) = omega (arith, less, fewer) in
          c.in-Ok-fill.ensures.serving held first left (beside c.handle.new.strays (g.Ts.Targets.answers c.handle.new.updates)) sent h (c.in-Ok-handle.ensures.serving held first left sent h less (i.serving held first left sent h reach k) (i.nothing now) more);
    }

pub loop-buffer-smaller : goal.loop-buffer-smaller
loop-buffer-smaller g c =
    let i = c.loop-buffer.invariant in
    let now : Beside = beside c.loop-buffer.strays (g.Ts.Targets.answers c.loop-buffer.updates) in
    let next : Beside = beside c.handle.new.strays (g.Ts.Targets.answers c.handle.new.updates) in
    let up : handled (seen c.loop-buffer.machine c.loop-buffer.collector now) < handled (seen c.handle.new.machine c.handle.new.collector next) = c.in-Ok-handle.ensures.rises in
    let kept : size_of_pieces c.fill-in-loop-buffer.new.collector.kept ≡ size_of_pieces c.handle.new.collector.kept = ap size_of_pieces c.fill-in-loop-buffer.ensures.kept in
    let few = fits c.loop-buffer.machine c.loop-buffer.collector now i.tiles in
    let strays : c.loop-buffer.strays ≤ 1024 = i.strays in
    let many = few.0 in
    let near = few.1 in
    omega (arith, up, kept, many, near, strays)

pub returns-clause-serving : goal.returns-clause-serving
returns-clause-serving g c held first left sent h less k = (c.loop-buffer.strays, c.loop-buffer.invariant.serving held first left sent h less k)

pub returns-clause-collects : goal.returns-clause-collects
returns-clause-collects g c o r k =
    let i = c.loop-buffer.invariant in
    let k2 = i.came o r k in
    let now : Beside = beside c.loop-buffer.strays (g.Ts.Targets.answers c.loop-buffer.updates) in
    record {
      strays = c.loop-buffer.strays;
      came = k2.0;
      nothing = k2.1;
      whole = whole_seen c.loop-buffer.machine c.loop-buffer.collector now ∙ (sym c.is_complete.ensures.value ∙ c.loop-buffer-test.false);
    }
