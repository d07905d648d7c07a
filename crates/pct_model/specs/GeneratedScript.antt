-- The generated scripts: a script for each number, given by its canonical text. Main creates threads that wait for a
-- condition variable, signals it once in each round, and then cancels and joins the threads. Each of them adds its
-- argument to the total in a destructor.
use Rattle.std.specs.Prelude.{ℕ, ◌+◌, ◌/◌, ◌%◌, List, [], ◌∷◌, ◌++◌, map, flat_map, codes, decimal}
use Rattle.std.specs.List.{range_with_len}

-- the number of threads that main creates: 1 to 28
abbrev pub threads_of : ℕ → ℕ
threads_of number = 1 + number % 28

-- the number of rounds: 1 to 200
abbrev pub rounds_of : ℕ → ℕ
rounds_of number = 1 + number / 28 % 200

-- the lines of the globals before those for the ids of threads
abbrev pub first_globals : List (List ℕ)
first_globals = codes "global key" ∷ codes "global total" ∷ codes "global work" ∷ []

-- the lines of the declarations after the globals
abbrev pub later_declarations : List (List ℕ)
later_declarations = codes "mutex m" ∷ codes "cond c" ∷ []

-- the handler that unlocks the mutex, the destructor that adds its value to the total, the function of a thread, and the first line
-- of main
unfoldable pub function_texts : List (List ℕ)
function_texts =
    codes "fn unlock x"
    ∷ codes "pthread_mutex_unlock m"
    ∷ codes "end"
    ∷ codes "fn bye x"
    ∷ codes "pthread_mutex_lock m"
    ∷ codes "add total x"
    ∷ codes "pthread_mutex_unlock m"
    ∷ codes "end"
    ∷ codes "fn worker x"
    ∷ codes "pthread_setspecific key x"
    ∷ codes "while 1"
    ∷ codes "pthread_mutex_lock m"
    ∷ codes "pthread_cleanup_push unlock 0"
    ∷ codes "pthread_cond_wait c m"
    ∷ codes "add work 1"
    ∷ codes "pthread_cleanup_pop 1"
    ∷ codes "end"
    ∷ codes "end"
    ∷ codes "fn main x n"
    ∷ []

-- the rounds of main
unfoldable pub round_texts : List (List ℕ)
round_texts =
    codes "while n"
    ∷ codes "pthread_mutex_lock m"
    ∷ codes "pthread_cond_signal c"
    ∷ codes "pthread_mutex_unlock m"
    ∷ codes "add n 4294967295"
    ∷ codes "end"
    ∷ []

-- the end of main
abbrev pub end_texts : List (List ℕ)
end_texts = codes "emit total" ∷ codes "return 0" ∷ codes "end" ∷ []

-- the lines of the script with these numbers of threads and of rounds
unfoldable pub generated_lines : ℕ → ℕ → List (List ℕ)
generated_lines threads rounds =
    first_globals
    ++ map (λ i. codes "global t" ++ decimal i) (range_with_len 1 threads)
    ++ later_declarations
    ++ function_texts
    ++ (codes "pthread_key_create - key bye" ∷ [])
    ++ map (λ i. codes "pthread_create - t" ++ decimal i ++ codes " worker " ++ decimal i) (range_with_len 1 threads)
    ++ ((codes "set n " ++ decimal rounds) ∷ round_texts)
    ++ map (λ i. codes "pthread_cancel t" ++ decimal i) (range_with_len 1 threads)
    ++ map (λ i. codes "pthread_join t" ++ decimal i ++ codes " -") (range_with_len 1 threads)
    ++ end_texts

-- the canonical text of the script of a number: its lines, each with an LF (byte 10)
unfoldable pub generated_text : ℕ → List ℕ
generated_text number = flat_map (λ line. line ++ 10 ∷ []) (generated_lines (threads_of number) (rounds_of number))
