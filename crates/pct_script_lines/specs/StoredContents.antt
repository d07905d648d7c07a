-- The contents of a script that was resolved.
use Rattle.pct_model.specs.Contents.{Contents}
use Rattle.pct_script_lines.specs.declared.resolve.ScriptContents.{ScriptContents}

-- the same contents as the definitions see them
abbrev pub contents_stored : ScriptContents → Contents
contents_stored c = record { globals = c.globals; mutexes = c.mutexes; conds = c.conds; sems = c.sems; onces = c.onces; funcs = c.funcs }
