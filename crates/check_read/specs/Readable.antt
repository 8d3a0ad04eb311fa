-- The order of the checks of a read.
use Rattle.std.specs.Prelude.{ℕ, List}
use Rattle.tables.specs.Limits.{step_limit}
use Rattle.tables.specs.Documents.{Doc}
use Rattle.tables.specs.Checks.{◌then◌, document_check, pattern_check, output_check, Checked}
use Rattle.identities.specs.Documents.{Document}
use Rattle.identities.specs.Checks.{whole_check}

-- the document, then the pattern, then 7 when the answer row is shorter than the used count
unfoldable pub read_check : List ℕ → Document → ℕ → Checked
read_check p d bytes = whole_check d then pattern_check p step_limit 1 then output_check d.tables.used bytes

-- the same for tables without identities, the pattern's table at fault named by the caller
unfoldable pub read_tables_check : List ℕ → ℕ → Doc → ℕ → Checked
read_tables_check p table d bytes =
    document_check d then pattern_check p step_limit table then output_check d.used bytes
