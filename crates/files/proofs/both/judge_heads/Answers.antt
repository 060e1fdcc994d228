-- The tests follow the chain of sizes and versions.
use Rattle.records.specs.Records.{◌or_else◌}
use Rattle.files.specs.Files.{heads_fault}
use Rattle.files.specs.Answers.{blamed_number, blamed_part}
use Rattle.files.proofs.both.judge_heads.Goals as goal

pub returns-in-Err : goal.returns-in-Err
unfolding heads_fault ◌or_else◌ blamed_number blamed_part
returns-in-Err c = rw (c.blame.ensures, ← c.in-Err.ensures)

pub returns-in-Err-check_size : goal.returns-in-Err-check_size
unfolding heads_fault ◌or_else◌ blamed_number blamed_part
returns-in-Err-check_size c =
    rw (c.blame-in-Err-check_size.ensures, ← c.in_default.ensures, ← c.in-Err-check_size.ensures)

pub returns-in-Err-check_version : goal.returns-in-Err-check_version
unfolding heads_fault ◌or_else◌ blamed_number blamed_part
returns-in-Err-check_version c =
    rw (
      c.blame-in-Err-check_version.ensures,
      ← c.in_default.ensures,
      ← c.in_default-check_size.ensures,
      ← c.in-Err-check_version.ensures,
    )

pub returns-in-Err-check_version-2 : goal.returns-in-Err-check_version-2
unfolding heads_fault ◌or_else◌ blamed_number blamed_part
returns-in-Err-check_version-2 c =
    rw (
      c.blame-in-Err-check_version-2.ensures,
      ← c.in_default.ensures,
      ← c.in_default-check_size.ensures,
      ← c.in_default-check_version.ensures,
      ← c.in-Err-check_version-2.ensures,
    )

pub returns : goal.returns
unfolding heads_fault ◌or_else◌ blamed_number blamed_part
returns c =
    rw (
      ← c.in_default.ensures,
      ← c.in_default-check_size.ensures,
      ← c.in_default-check_version.ensures,
      ← c.in_default-check_version-2.ensures,
    )
