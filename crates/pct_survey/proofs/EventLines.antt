-- The lines of events, one by one.
use Rattle.pct_names.proofs.Names.{◌<◌, [], ap, Bool, Event, event_line, false, false≢true, get_or, length, length-map, List, map, option_map, option_map_or, Script, slice_get}
use Rattle.pct_names.proofs.Names.{slice_get-get_or, slice_get-map, Some, subst, sym, thread_text, true, ℕ, ◌∙◌, ◌≡◌}
use Rattle.pct_expect.specs.Events.{MatchesAt, matches, thread_at, thread_of}
use Rattle.pct_expect.proofs.EventLines.{inside_events}

module _ (script : Script) (events : List Event) where
  -- the words of all events
  abbrev pub lines : List (List (List ℕ))
  lines = map (event_line script) events

  line_at : (i : ℕ) (d : Event) → i < length events → slice_get lines i ≡ Some (event_line script (get_or events i d))
  line_at i d inside = slice_get-map (event_line script) events i ∙ ap (option_map (event_line script)) (slice_get-get_or events i d inside)

  test_at : (pattern : List (List ℕ)) (i : ℕ) (d : Event) → i < length events → option_map_or (matches pattern) (slice_get lines i) false ≡ matches pattern (event_line script (get_or events i d))
  test_at pattern i d inside = ap (λ o. option_map_or (matches pattern) o false) (line_at i d inside)

  same_test : (pattern asked : List (List ℕ)) (i : ℕ) (d : Event) (result : Bool) → i < length events → asked ≡ pattern → result ≡ matches asked (event_line script (get_or events i d))
      → option_map_or (matches pattern) (slice_get lines i) false ≡ result
  same_test pattern asked i d result inside same test = test_at pattern i d inside ∙ sym (test ∙ ap (λ (p : List (List ℕ)). matches p (event_line script (get_or events i d))) same)

  pub matched : (pattern asked : List (List ℕ)) (i : ℕ) (d : Event) → i < length events → asked ≡ pattern → true ≡ matches asked (event_line script (get_or events i d)) → MatchesAt pattern lines i
  matched pattern asked i d inside same test = same_test pattern asked i d true inside same test

  pub unmatched : (pattern asked : List (List ℕ)) (i : ℕ) (d : Event) → i < length events → asked ≡ pattern → false ≡ matches asked (event_line script (get_or events i d)) → MatchesAt pattern lines i → ⊥
  unmatched pattern asked i d inside same test m = false≢true (sym (same_test pattern asked i d false inside same test) ∙ m)

  pub thread_is : (i : ℕ) (d : Event) → i < length events → thread_at lines i ≡ thread_text (get_or events i d).pid (get_or events i d).tid
  unfolding event_line
  thread_is i d inside = ap (λ o. option_map_or thread_of o []) (line_at i d inside)

  -- an event that is matched is there
  pub inside : (pattern : List (List ℕ)) (i : ℕ) → MatchesAt pattern lines i → i < length events
  inside pattern i m = subst (λ (n : ℕ). i < n) (length-map events (event_line script)) (inside_events pattern lines i m)
