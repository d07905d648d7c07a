-- The loop over the lines of a schedule's text, at a line that is read as an entry at once.
use Rattle.pct_names.proofs.Names.{◌<◌, Entry, entry_in, Format, List, Ok, read_entry, refl, ℕ, ◌≡◌}
use Rattle.std.proofs.Common.{lt-ltb}
use Rattle.pct_schedule.specs.FirstEntry.{IsFirstEntry}
use Rattle.pct_schedule.proofs.LineLoops.{ReadsLine}

pub reads_first : (text : List ℕ) (e : Entry) (after : List ℕ) (first : IsFirstEntry text e after) → ReadsLine text first.line after
reads_first text e after first = record { raw = first.line; first = first.first; read = first.whole }

pub read_first : (n budget count : ℕ) (format : Format) (text : List ℕ) (e : Entry) (after : List ℕ) (first : IsFirstEntry text e after) → count < budget
    → read_entry n budget count (entry_in format first.line) ≡ Ok e
read_first n budget count format text e after first within = rw (first.entry format, lt-ltb count budget within) refl
