-- Worked values of the definitions.
use Rattle.pct_names.proofs.Names.{arith, codes, decimal_digit, function_texts, generated_lines, generated_text, nat_le, refl, round_texts}
use Rattle.pct_names.proofs.Names.{rounds_of, threads_of, true, ℕ, ◌≡◌}

-- the script of 0
text_of_0 : generated_text 0 ≡ codes "global key\nglobal total\nglobal work\nglobal t1\nmutex m\ncond c\nfn unlock x\npthread_mutex_unlock m\nend\nfn bye x\npthread_mutex_lock m\nadd total x\npthread_mutex_unlock m\nend\nfn worker x\npthread_setspecific key x\nwhile 1\npthread_mutex_lock m\npthread_cleanup_push unlock 0\npthread_cond_wait c m\nadd work 1\npthread_cleanup_pop 1\nend\nend\nfn main x n\npthread_key_create - key bye\npthread_create - t1 worker 1\nset n 1\nwhile n\npthread_mutex_lock m\npthread_cond_signal c\npthread_mutex_unlock m\nadd n 4294967295\nend\npthread_cancel t1\npthread_join t1 -\nemit total\nreturn 0\nend\n"
unfolding generated_text generated_lines function_texts round_texts
text_of_0 = rw (decimal_digit 1 (omega arith)) refl

threads_of_last : threads_of 4294967295 ≡ 4
threads_of_last = refl

rounds_of_last : rounds_of 4294967295 ≡ 90
rounds_of_last = refl
