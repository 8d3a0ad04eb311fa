-- The digits, then the line feed behind them.
use Rattle.text_plan_lines.proofs.Texts.{line_fits, line_written}
use Rattle.text_plan_lines.proofs.write_words.Goals as goal

pub unwrap-end-requires : goal.unwrap-end-requires
unwrap-end-requires c = line_fits c.args.words.now c.args.out.now c.requires c.write_line.new.out c.write_line.result c.write_line.ensures

pub returns : goal.returns
returns c = line_written c.args.words.now c.args.out.now c.requires c.write_line.new.out c.write_line.ensures c.unwrap-end.ensures
