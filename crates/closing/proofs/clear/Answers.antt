-- The first 4,096 entries are filled, and the others stay.
use Rattle.std.proofs.Common.{length, take}
use lib.Seq.{length-take-le}
use Rattle.closing.proofs.Starting.{filled-long, filled-entries, filled-beyond}
use Rattle.closing.proofs.clear.Goals as goal

pub returns : goal.returns
returns c =
    let table = c.args.table.now in
    let is = c.fill.ensures.after (λ y e. e) in
    let all = length-take-le 4096 table c.requires in
    record {
      as_long = filled-long 4096 65535 (length (take 4096 table)) table c.fill.new.self c.requires is all;
      entries = filled-entries 4096 65535 (length (take 4096 table)) table c.fill.new.self c.requires is all;
      beyond = filled-beyond 4096 65535 (length (take 4096 table)) table c.fill.new.self c.requires is all;
    }
