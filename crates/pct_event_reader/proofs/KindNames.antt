-- The number of a name of each kind.
use Rattle.pct_names.proofs.Names.{ap, Err, IfOk, index_among, is_name, List, Ok, OnOk, option_map, Result, Some, true, ℕ, ◌∙◌, ◌≡◌}
use Rattle.pct_io.specs.declared.failed.NoMemory.{NoMemory}
use Rattle.pct_model.specs.declared.line_kind.SymbolKind.{SymbolKind}
use Rattle.pct_model.specs.declared.line_kind.SymbolKind.TheVariants.{Cond, Function, Mutex, Once, Sem}
use Rattle.pct_model.specs.EventTexts.{EventNames}
use Rattle.pct_name_numbers.specs.declared.name_numbers.NameNumbers.{NameNumbers}
use Rattle.pct_name_numbers.specs.Numbering.{IsNumbering, names_with}
use Rattle.pct_event_reader.specs.declared.numbers.EventNumbers.{EventNumbers}
use Rattle.pct_event_reader.specs.Numberings.{IsNumberings, Numbers}
use Rattle.pct_event_reader.specs.Values.{field_of}
use Rattle.pct_event_reader.proofs.KindValues.{name_read}

-- one table is changed by reading a name
module _ (table : EventNumbers) (k : SymbolKind) (w : List ℕ) (named : is_name w ≡ true) (new : NameNumbers) where
  pub function_numbered : (result : Result ℕ NoMemory) → k ≡ Function
      → IfOk result (λ number. (names : List (List ℕ)) → IsNumbering table.functions names → Some number ≡ index_among (names_with w names) w)
      → OnOk result ((names : List (List ℕ)) → IsNumbering table.functions names → IsNumbering new (names_with w names))
      → IfOk result (λ number. (names : EventNames) → IsNumberings table names → Numbers (field_of k names w) (record { functions = new; mutexes = table.mutexes; conds = table.conds; sems = table.sems; onces = table.onces }) number)
  function_numbered (Err e) is numbers tables = tt
  function_numbered (Ok number) is numbers tables = λ names numbering. (
    record names { functions = names_with w names.functions },
    ap (λ (j : SymbolKind). field_of j names w) is ∙ ap (option_map (λ r. (record names { functions = r.0 }, r.1))) (name_read w number names.functions named (numbers names.functions numbering.functions)),
    record { functions = tables names.functions numbering.functions; mutexes = numbering.mutexes; conds = numbering.conds; sems = numbering.sems; onces = numbering.onces },
  )

  pub mutex_numbered : (result : Result ℕ NoMemory) → k ≡ Mutex
      → IfOk result (λ number. (names : List (List ℕ)) → IsNumbering table.mutexes names → Some number ≡ index_among (names_with w names) w)
      → OnOk result ((names : List (List ℕ)) → IsNumbering table.mutexes names → IsNumbering new (names_with w names))
      → IfOk result (λ number. (names : EventNames) → IsNumberings table names → Numbers (field_of k names w) (record { functions = table.functions; mutexes = new; conds = table.conds; sems = table.sems; onces = table.onces }) number)
  mutex_numbered (Err e) is numbers tables = tt
  mutex_numbered (Ok number) is numbers tables = λ names numbering. (
    record names { mutexes = names_with w names.mutexes },
    ap (λ (j : SymbolKind). field_of j names w) is ∙ ap (option_map (λ r. (record names { mutexes = r.0 }, r.1))) (name_read w number names.mutexes named (numbers names.mutexes numbering.mutexes)),
    record { functions = numbering.functions; mutexes = tables names.mutexes numbering.mutexes; conds = numbering.conds; sems = numbering.sems; onces = numbering.onces },
  )

  pub cond_numbered : (result : Result ℕ NoMemory) → k ≡ Cond
      → IfOk result (λ number. (names : List (List ℕ)) → IsNumbering table.conds names → Some number ≡ index_among (names_with w names) w)
      → OnOk result ((names : List (List ℕ)) → IsNumbering table.conds names → IsNumbering new (names_with w names))
      → IfOk result (λ number. (names : EventNames) → IsNumberings table names → Numbers (field_of k names w) (record { functions = table.functions; mutexes = table.mutexes; conds = new; sems = table.sems; onces = table.onces }) number)
  cond_numbered (Err e) is numbers tables = tt
  cond_numbered (Ok number) is numbers tables = λ names numbering. (
    record names { conds = names_with w names.conds },
    ap (λ (j : SymbolKind). field_of j names w) is ∙ ap (option_map (λ r. (record names { conds = r.0 }, r.1))) (name_read w number names.conds named (numbers names.conds numbering.conds)),
    record { functions = numbering.functions; mutexes = numbering.mutexes; conds = tables names.conds numbering.conds; sems = numbering.sems; onces = numbering.onces },
  )

  pub sem_numbered : (result : Result ℕ NoMemory) → k ≡ Sem
      → IfOk result (λ number. (names : List (List ℕ)) → IsNumbering table.sems names → Some number ≡ index_among (names_with w names) w)
      → OnOk result ((names : List (List ℕ)) → IsNumbering table.sems names → IsNumbering new (names_with w names))
      → IfOk result (λ number. (names : EventNames) → IsNumberings table names → Numbers (field_of k names w) (record { functions = table.functions; mutexes = table.mutexes; conds = table.conds; sems = new; onces = table.onces }) number)
  sem_numbered (Err e) is numbers tables = tt
  sem_numbered (Ok number) is numbers tables = λ names numbering. (
    record names { sems = names_with w names.sems },
    ap (λ (j : SymbolKind). field_of j names w) is ∙ ap (option_map (λ r. (record names { sems = r.0 }, r.1))) (name_read w number names.sems named (numbers names.sems numbering.sems)),
    record { functions = numbering.functions; mutexes = numbering.mutexes; conds = numbering.conds; sems = tables names.sems numbering.sems; onces = numbering.onces },
  )

  pub once_numbered : (result : Result ℕ NoMemory) → k ≡ Once
      → IfOk result (λ number. (names : List (List ℕ)) → IsNumbering table.onces names → Some number ≡ index_among (names_with w names) w)
      → OnOk result ((names : List (List ℕ)) → IsNumbering table.onces names → IsNumbering new (names_with w names))
      → IfOk result (λ number. (names : EventNames) → IsNumberings table names → Numbers (field_of k names w) (record { functions = table.functions; mutexes = table.mutexes; conds = table.conds; sems = table.sems; onces = new }) number)
  once_numbered (Err e) is numbers tables = tt
  once_numbered (Ok number) is numbers tables = λ names numbering. (
    record names { onces = names_with w names.onces },
    ap (λ (j : SymbolKind). field_of j names w) is ∙ ap (option_map (λ r. (record names { onces = r.0 }, r.1))) (name_read w number names.onces named (numbers names.onces numbering.onces)),
    record { functions = numbering.functions; mutexes = numbering.mutexes; conds = numbering.conds; sems = numbering.sems; onces = tables names.onces numbering.onces },
  )
