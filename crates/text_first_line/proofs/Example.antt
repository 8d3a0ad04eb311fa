-- The two mode lines in bytes.
use mathlib.Core.Path.{◌≡◌, refl}
use lib.ListN.{get_or}
use Rattle.tables.specs.Checks.{each, Fine}
use Rattle.selection.specs.Lists.{tab}
use Rattle.batch_mode.specs.Modes.{mode_check, mode_of}
use Rattle.batch_mode.specs.declared.Mode.TheVariants.{Node, Deep}
use Rattle.text_digits.specs.Digits.{digit_of, word_at, words_of}
use Rattle.text_parts.specs.Next.{next_from, next}
use Rattle.text_line_in.specs.Lines.{character_check, line_check}
use Rattle.text_first_line.specs.FirstLine.{first_words, ModeLine, mode_line_check, node_line, deep_line}

pub node_named : ModeLine node_line × (mode_line_check (first_words node_line) ≡ Fine) × (mode_of (get_or (first_words node_line) 1 0) ≡ Node)
unfolding next next_from line_check character_check each digit_of word_at words_of tab mode_line_check mode_check mode_of
node_named = (record { formed = refl; kind = refl }, refl, refl)

pub deep_named : ModeLine deep_line × (mode_line_check (first_words deep_line) ≡ Fine) × (mode_of (get_or (first_words deep_line) 1 0) ≡ Deep)
unfolding next next_from line_check character_check each digit_of word_at words_of tab mode_line_check mode_check mode_of
deep_named = (record { formed = refl; kind = refl }, refl, refl)
