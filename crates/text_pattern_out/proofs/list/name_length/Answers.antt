-- The next line feed stands here or behind.
use native.Mathlib.Omega.{arith}
use Rattle.text_parts.proofs.Finding.{next-least}
use Rattle.text_names.specs.Names.{feed}
use Rattle.text_pattern_out.proofs.list.name_length.Goals as goal

pub overflow_sub-result : goal.overflow_sub-result
overflow_sub-result c = omega (arith, c.next_byte.ensures, next-least feed c.args.list.now c.args.from)
