-- What a process sees of the other processes, as the definitions have it.
use Rattle.pct_model.specs.OtherProcesses.{Family as OtherProcesses, family_among}
use Rattle.pct_process.specs.declared.family.Family.{Family}

-- the other processes, as the one with an id sees them
abbrev pub other_processes : Family → OtherProcesses
other_processes f = family_among f.made f.relatives.now f.pid
