use Rattle.std.proofs.Common.{◌++◌, ◌%◌, codes, string_bytes}
use Rattle.od_gen.specs.Generated.{name_and_content, two_digits}
use Rattle.od_gen.proofs.Loops.{both_ok}
use Rattle.od_gen.proofs.push_file.Goals as goal

pub returns : goal.returns
returns c =
    both_ok c.push_name_and_content.result (string_bytes c.args.script.now) (string_bytes c.push_numbered.new.script) (string_bytes c.push_name_and_content.new.script)
    (codes "other put /d" ++ two_digits (c.args.i % 90) ++ codes "/") (name_and_content c.args.i) c.in_ok-push_numbered.ensures c.push_name_and_content.ensures
