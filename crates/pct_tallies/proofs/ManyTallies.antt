-- Tallies one after the other.
use Rattle.std.proofs.Common.{◌≡◌, eqb-true, ℕ, zero, suc, ◌+◌, ◌<◌, ◌≤◌, List, [], ◌∷◌, ◌++◌, Option, Some, None, append-nil, append_assoc, ap, arith, false, length, map, refl, sym, subst, true, true≢false, nat_eq, ◌∙◌}
use Rattle.std.specs.Prelude.{Result, Ok, Err}
use Rattle.pct_model.specs.Lines.{lines_of, split_once, strip_cr}
use Rattle.pct_text.proofs.Lines.{lines_of-last, lines_of-nil, lines_of-split_once}
use Rattle.pct_tallies.specs.declared.fault.TallyFault.{TallyFault}
use Rattle.pct_tallies.specs.declared.fault.TallyFault.TheVariants as fault
use Rattle.pct_tallies.specs.declared.range_tally.PlacedTally.{PlacedTally}
use Rattle.pct_tallies.specs.declared.range_tally.RangeTally.{RangeTally}
use Rattle.pct_tallies.specs.declared.reader.Lines.{Lines}
use Rattle.pct_tallies.specs.Faults.{Fails, Fault}
use Rattle.pct_tallies.specs.LinesLeft.{left_of}
use Rattle.pct_tallies.specs.Readings.{Left, if_some, lines_in, range_from, prepend, tallies_from, with_others}

-- tallies that were read, before others
abbrev pub in_front : List PlacedTally → Result (List PlacedTally) Fault → Result (List PlacedTally) Fault
in_front before (Ok tallies) = Ok (before ++ tallies)
in_front before (Err fault) = Err fault

-- what was read, and what is read of the lines that are left, is all
pub record GoesOn (text : List ℕ) (before : List PlacedTally) (lines : Lines) : Type 0 where
  pub most : ℕ
  pub enough : length lines.text.now ≤ most
  pub read : tallies_from (length text) (1, lines_in text) ≡ in_front before (tallies_from most (left_of lines))

pub begins : (text : List ℕ) (lines : Lines) → lines.number ≡ 1 → lines.text.now ≡ text → GoesOn text [] lines
begins text lines first all = record {
  most = length text;
  enough = omega (arith, ap length all);
  read = front_of_none (tallies_from (length text) (1, lines_in text)) ∙ (λ i. in_front [] (tallies_from (length text) (sym first i, lines_in (sym all i))));
}
  where
    front_of_none : (r : Result (List PlacedTally) Fault) → r ≡ in_front [] r
    front_of_none (Ok tallies) = refl
    front_of_none (Err fault) = refl

-- a text with a byte has a line
pub has_line : (b : ℕ) (bytes : List ℕ) → 0 < length (lines_in (b ∷ bytes))
has_line b bytes = by_split (split_once 10 (b ∷ bytes)) refl
  where
    some : (line : List ℕ) (lines : List (List ℕ)) → lines_of (b ∷ bytes) ≡ line ∷ lines → 0 < length (lines_in (b ∷ bytes))
    some line lines is = rw is (omega arith)

    by_split : (o : Option (List ℕ × List ℕ)) → split_once 10 (b ∷ bytes) ≡ o → 0 < length (lines_in (b ∷ bytes))
    by_split None is = some (b ∷ bytes) [] (lines_of-last b bytes is)
    by_split (Some parts) is = some parts.0 (lines_of parts.1) (lines_of-split_once (b ∷ bytes) parts is)

-- where there is a line, the next tally is read
one_more : (most n : ℕ) (lines : List (List ℕ)) → 0 < length lines → tallies_from (suc most) (n, lines) ≡ with_others n (tallies_from most) (range_from (n, lines))
unfolding tallies_from
one_more most n [] some = absurd (omega (arith, some))
one_more most n (line ∷ lines) some = refl

module _ (text : List ℕ) (before : List PlacedTally) (lines : Lines) (goes : GoesOn text before lines) (some : 0 < length lines.text.now) where
  split_most : (most : ℕ) → length lines.text.now ≤ most → (less : ℕ) × (most ≡ suc less)
  split_most zero enough = absurd (omega (arith, some, enough))
  split_most (suc less) enough = (less, refl)

  has_next : 0 < length (lines_in lines.text.now)
  has_next = by_text lines.text.now some
    where
      by_text : (bytes : List ℕ) → 0 < length bytes → 0 < length (lines_in bytes)
      by_text [] s = absurd (omega (arith, s))
      by_text (b ∷ bytes) s = has_line b bytes

  next : (less : ℕ) → goes.most ≡ suc less → tallies_from (length text) (1, lines_in text) ≡ in_front before (with_others lines.number (tallies_from less) (range_from (left_of lines)))
  next less is = goes.read ∙ ap (λ (most : ℕ). in_front before (tallies_from most (left_of lines))) is ∙ ap (in_front before) (one_more less lines.number (lines_in lines.text.now) has_next)

  -- the fault of the next tally is that of all
  pub stops_at : (e : TallyFault) → Fails e (range_from (left_of lines)) → Fails e (tallies_from (length text) (1, lines_in text))
  stops_at fault.NoMemory h = tt
  stops_at (fault.Refused line why) h =
      let less = split_most goes.most goes.enough in
      next less.0 less.1 ∙ ap (λ r. in_front before (with_others lines.number (tallies_from less.0) r)) h

  front_of_one : (placed : PlacedTally) (r : Result (List PlacedTally) Fault) → in_front before (prepend placed r) ≡ in_front (before ++ placed ∷ []) r
  front_of_one placed (Ok tallies) = ap Ok (sym (append_assoc before (placed ∷ []) tallies))
  front_of_one placed (Err fault) = refl

  -- the next tally is one more
  pub one_read : (range : RangeTally) (after : Lines) → range_from (left_of lines) ≡ Ok (range, left_of after) → length after.text.now < length lines.text.now
      → GoesOn text (before ++ record { line = lines.number; range = range } ∷ []) after
  one_read range after h shorter =
      let less = split_most goes.most goes.enough in
      record {
        most = less.0;
        enough = omega (arith, goes.enough, less.1, shorter);
        read = next less.0 less.1 ∙ ap (λ r. in_front before (with_others lines.number (tallies_from less.0) r)) h
            ∙ front_of_one (record { line = lines.number; range = range }) (tallies_from less.0 (left_of after));
      }

-- without a line all are read
pub none_left : (most n : ℕ) → tallies_from most (n, []) ≡ Ok []
unfolding tallies_from
none_left zero n = refl
none_left (suc most) n = refl

pub all_read : (text : List ℕ) (before : List PlacedTally) (lines : Lines) → GoesOn text before lines → lines.text.now ≡ [] → tallies_from (length text) (1, lines_in text) ≡ Ok before
all_read text before lines goes none =
    goes.read
    ∙ ap (λ (bytes : List ℕ). in_front before (tallies_from goes.most (lines.number, lines_in bytes))) none
    ∙ ap (λ (ls : List (List ℕ)). in_front before (tallies_from goes.most (lines.number, map strip_cr ls))) lines_of-nil
    ∙ ap (in_front before) (none_left goes.most lines.number)
    ∙ ap Ok (append-nil before)

-- ---- tests

pub positive : (n : ℕ) → false ≡ nat_eq n 0 → 0 < n
positive zero h = absurd (true≢false (sym h))
positive (suc n) h = omega arith

pub empty : {X : Type 0} (xs : List X) → true ≡ nat_eq (length xs) 0 → xs ≡ []
empty [] h = refl
empty (x ∷ xs) h = absurd (omega (arith, eqb-true (length (x ∷ xs)) 0 (sym h)))

-- tallies, of which there is one
pub some_given : (tallies : List PlacedTally) → 0 < length tallies → if_some (Ok tallies) ≡ Ok tallies
some_given [] some = absurd (omega (arith, some))
some_given (placed ∷ tallies) some = refl

pub fails_if_some : (e : TallyFault) (r : Result (List PlacedTally) Fault) → Fails e r → Fails e (if_some r)
fails_if_some fault.NoMemory r h = tt
fails_if_some (fault.Refused line why) r h = ap if_some h
