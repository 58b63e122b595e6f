use Rattle.std.proofs.Common.{rules, length, ◌-◌}
use Rattle.rowlist.proofs.Reading.{reads_more}
use Rattle.rowlist.proofs.input.fill.Goals as goal

pub loop-preserved : goal.loop-preserved
loop-preserved g c =
    let R = g.R.Read in
    let read = c.in_ok-count.ensures in (
      search rules,
      search rules,
      reads_more (R.remaining c.args.input.now) (R.remaining c.loop.input) (R.remaining c.read.new.self) c.loop.filled (length c.loop.buffer - c.loop.filled) c.in_ok-count.count c.loop.buffer c.read.new.buf c.loop.invariant.0 read.bound.0 c.loop.invariant.2 read.bytes.0,
    )
