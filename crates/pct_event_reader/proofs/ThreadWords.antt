-- The process and the thread of a word `PID.TID`.
use Rattle.pct_names.proofs.Names.{and_parts, ap, false≢true, is_some, List, None, number_of, option_map, Option, refl, Some, split_once, sym, true, ℕ, ◌&&◌, ◌∙◌, ◌≡◌}
use Rattle.std.specs.Borrow.{Bor}
use Rattle.pct_model.specs.Lines.{◌>>=◌}
use Rattle.pct_name_numbers.specs.EventReading.{not_zero, thread_of}
use Rattle.pct_report_reader.specs.Reading.{are_positive, is_thread}
use Rattle.pct_report_reader.specs.Texts.{is_positive}

pub has_two_parts : (parts : Option (Bor (List ℕ) × Bor (List ℕ))) (w : List ℕ) → option_map (λ p. (p.0.now, p.1.now)) parts ≡ split_once 46 w → is_thread w ≡ true → is_some parts ≡ true
unfolding is_thread
has_two_parts None w split is = absurd (false≢true (ap are_positive split ∙ is))
has_two_parts (Some p) w split is = refl

module _ (parts : Option (Bor (List ℕ) × Bor (List ℕ))) (w : List ℕ) (p : Bor (List ℕ) × Bor (List ℕ)) (split : option_map (λ p. (p.0.now, p.1.now)) parts ≡ split_once 46 w) (found : parts ≡ Some p)
    (is : is_thread w ≡ true) where
  two_parts : split_once 46 w ≡ Some (p.0.now, p.1.now)
  two_parts = sym split ∙ ap (option_map (λ q. (q.0.now, q.1.now))) found

  both : (is_positive (number_of p.0.now) && is_positive (number_of p.1.now)) ≡ true
  unfolding is_thread
  both = sym (ap are_positive two_parts) ∙ is

  pub process_positive : is_positive (number_of p.0.now) ≡ true
  process_positive = (and_parts (is_positive (number_of p.0.now)) (is_positive (number_of p.1.now)) both).0

  pub thread_positive : is_positive (number_of p.1.now) ≡ true
  thread_positive = (and_parts (is_positive (number_of p.0.now)) (is_positive (number_of p.1.now)) both).1

  pub thread_read : (pid tid : ℕ) → not_zero p.0.now ≡ Some pid → not_zero p.1.now ≡ Some tid → thread_of w ≡ Some (pid, tid)
  unfolding thread_of
  thread_read pid tid process thread =
      ap (λ o. o >>= λ q. not_zero q.0 >>= λ a. option_map (λ b. (a, b)) (not_zero q.1)) two_parts
      ∙ ap (λ (o : Option ℕ). o >>= λ a. option_map (λ b. (a, b)) (not_zero p.1.now)) process
      ∙ ap (λ (o : Option ℕ). option_map (λ b. (pid, b)) o) thread
