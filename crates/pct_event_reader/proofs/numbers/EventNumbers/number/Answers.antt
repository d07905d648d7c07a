use Rattle.pct_event_reader.proofs.KindNames.{cond_numbered, function_numbered, mutex_numbered, once_numbered, sem_numbered}
use Rattle.pct_event_reader.proofs.numbers.EventNumbers.number.Goals as goal

pub returns-in-Function-clause-number : goal.returns-in-Function-clause-number
returns-in-Function-clause-number c = function_numbered c.args.self.now c.args.kind c.args.name.now c.requires.name c.number.new.self c.number.result c.in-Function.is c.number.ensures.number c.number.ensures.names

pub returns-in-Mutex-clause-number : goal.returns-in-Mutex-clause-number
returns-in-Mutex-clause-number c = mutex_numbered c.args.self.now c.args.kind c.args.name.now c.requires.name c.number-in-Mutex.new.self c.number-in-Mutex.result c.in-Mutex.is c.number-in-Mutex.ensures.number c.number-in-Mutex.ensures.names

pub returns-in-Cond-clause-number : goal.returns-in-Cond-clause-number
returns-in-Cond-clause-number c = cond_numbered c.args.self.now c.args.kind c.args.name.now c.requires.name c.number-in-Cond.new.self c.number-in-Cond.result c.in-Cond.is c.number-in-Cond.ensures.number c.number-in-Cond.ensures.names

pub returns-in-Sem-clause-number : goal.returns-in-Sem-clause-number
returns-in-Sem-clause-number c = sem_numbered c.args.self.now c.args.kind c.args.name.now c.requires.name c.number-in-Sem.new.self c.number-in-Sem.result c.in-Sem.is c.number-in-Sem.ensures.number c.number-in-Sem.ensures.names

pub returns-in-Once-clause-number : goal.returns-in-Once-clause-number
returns-in-Once-clause-number c = once_numbered c.args.self.now c.args.kind c.args.name.now c.requires.name c.number-in-Once.new.self c.number-in-Once.result c.in-Once.is c.number-in-Once.ensures.number c.number-in-Once.ensures.names
