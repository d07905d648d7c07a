-- Phrases that are collected one after the other, each after a comma.
use Rattle.pct_names.proofs.Names.{◌+◌, ◌++◌, ◌-◌, ◌<◌, [], add-one, ap, arith, between_to_end, Bool, codes, decimal, drop, flat_map}
use Rattle.pct_names.proofs.Names.{flat_map-map, ForkHandlers, Frame, inl, inr, join_with_byte, KeyPlace, KeyValues, length, List, map}
use Rattle.pct_names.proofs.Names.{map-range_with_len_more, MAX_KEYS, OnOk, Option, option_map_or, range_with_len, refl, Result, Script}
use Rattle.pct_names.proofs.Names.{slice_get, Some, suc, sym, take, zero, zip, ℕ, ◌∙◌, ◌∷◌, ◌≡◌, ◌≤◌, ◌⊎◌}
use Rattle.std.proofs.Common.{append_assoc}
use Rattle.std.proofs.lemmas.Grind.{flat_map-append}
use Rattle.std.proofs.lemmas.List.{append-nil}
use Rattle.pct_engine_laws.proofs.ListFacts.{flat_map_agree, flat_map-flat_map}
use Rattle.pct_io.proofs.Joined.{joined}
use Rattle.pct_view_texts.specs.States.{exit_function_phrase, exit_phrases, fork_handlers_phrase, key_on, key_phrases, restricted_phrases, specific_on, specific_phrases, value_words}
use Rattle.pct_view_texts.proofs.Appending.{as_text, then_text}
use Rattle.pct_view_texts.specs.Fields.{Phrase, phrase_text, field_text, after_commas}

-- ---- the field

-- a field without phrases
pub no_phrases : (all : List Phrase) → length (after_commas all) < 2 → codes "-" ≡ field_text all
unfolding field_text
no_phrases [] short = refl
no_phrases (p ∷ phrases) short = absurd (omega (arith, short))

-- a field of phrases: all but the first comma and space
from_third : (all : List Phrase) → 2 ≤ length (after_commas all) → drop 2 (after_commas all) ≡ field_text all
unfolding field_text
from_third [] long = absurd (omega (arith, long))
from_third (p ∷ phrases) long = refl

pub some_phrases : (all : List Phrase) (bytes : List ℕ) → bytes ≡ after_commas all → 2 ≤ length bytes → take (length bytes - 2) (drop 2 bytes) ≡ field_text all
some_phrases all bytes are long =
    between_to_end bytes 2 (length bytes) (omega arith)
    ∙ ap (drop 2) are
    ∙ from_third all (omega (arith, long, ap length are))

-- ---- phrases for each item

-- the phrases of items
pub each_phrase : {X : Type 0} (phrase_of : X → Phrase) (xs : List X) → after_commas (map phrase_of xs) ≡ flat_map (λ x. codes ", " ++ phrase_text (phrase_of x)) xs
each_phrase phrase_of xs = flat_map-map (λ (phrase : Phrase). codes ", " ++ phrase_text phrase) phrase_of xs

-- the same, in a text that was empty
pub collected : {X : Type 0} (phrase_of : X → Phrase) (xs : List X) (empty new : List ℕ) → empty ≡ [] → new ≡ empty ++ flat_map (λ x. codes ", " ++ phrase_text (phrase_of x)) xs → new ≡ after_commas (map phrase_of xs)
collected phrase_of xs empty new none is =
    is ∙ ap (λ (text : List ℕ). text ++ flat_map (λ x. codes ", " ++ phrase_text (phrase_of x)) xs) none ∙ sym (each_phrase phrase_of xs)

-- phrases and others
pub more_phrases : (some others : List Phrase) → after_commas (some ++ others) ≡ after_commas some ++ after_commas others
more_phrases some others = flat_map-append (λ (phrase : Phrase). codes ", " ++ phrase_text phrase) some others

map-same : {A : Type 0} (xs : List A) → map (λ (x : A). x) xs ≡ xs
map-same [] = refl
map-same {A} (x ∷ xs) = ap (λ (ys : List A). x ∷ ys) (map-same xs)

-- the phrases at the first places, and at the next one
range_more : (n : ℕ) → range_with_len 0 (n + 1) ≡ range_with_len 0 n ++ n ∷ []
range_more n = sym (map-same (range_with_len 0 (n + 1))) ∙ map-range_with_len_more (λ (k : ℕ). k) 0 n n (omega arith) ∙ ap (λ (ks : List ℕ). ks ++ n ∷ []) (map-same (range_with_len 0 n))

pub next_place : (on : ℕ → List Phrase) (place : ℕ) (old mid new : List ℕ)
    → mid ≡ old ++ after_commas (flat_map on (range_with_len 0 place)) → new ≡ mid ++ after_commas (on place) → new ≡ old ++ after_commas (flat_map on (range_with_len 0 (place + 1)))
next_place on place old mid new first next =
    next
    ∙ ap (λ (text : List ℕ). text ++ after_commas (on place)) first
    ∙ append_assoc old (after_commas (flat_map on (range_with_len 0 place))) (after_commas (on place))
    ∙ ap (λ (text : List ℕ). old ++ text)
    (sym (more_phrases (flat_map on (range_with_len 0 place)) (on place))
    ∙ ap after_commas
    (ap (λ (last : List Phrase). flat_map on (range_with_len 0 place) ++ last) (sym (append-nil (on place)))
    ∙ sym (flat_map-append on (range_with_len 0 place) (place ∷ []))
    ∙ ap (flat_map on) (sym (range_more place))))

-- several phrases for each item
pub phrases_each : {X : Type 0} (phrases_of : X → List Phrase) (xs : List X) → flat_map (λ x. after_commas (phrases_of x)) xs ≡ after_commas (flat_map phrases_of xs)
phrases_each phrases_of xs = sym (flat_map-flat_map (λ (phrase : Phrase). codes ", " ++ phrase_text phrase) phrases_of xs)

-- ---- items that are left

-- no item is left
pub none_left : {X : Type 0} (f : X → List ℕ) (xs : List X) (all now : List ℕ) → xs ≡ [] → now ++ flat_map f xs ≡ all → now ≡ all
none_left f xs all now none left = sym (append-nil now) ∙ ap (λ (items : List _). now ++ flat_map f items) (sym none) ∙ left

-- no pair is left, where one of two lists has no more items
pub no_pairs : {A B : Type 0} (xs : List A) (ys : List B) → (length xs ≡ 0) ⊎ (length ys ≡ 0) → zip xs ys ≡ []
no_pairs [] ys none = refl
no_pairs (x ∷ xs) [] none = refl
no_pairs (x ∷ xs) (y ∷ ys) none =
    elim none [
      | inl first ↦ absurd (omega (arith, first))
      | inr second ↦ absurd (omega (arith, second))
    ]

-- the same of the names of other items
pub no_named_pairs : {A B C : Type 0} (f : A → B) (xs : List A) (ys : List C) → (length xs ≡ 0) ⊎ (length ys ≡ 0) → zip (map f xs) ys ≡ []
no_named_pairs f [] ys none = refl
no_named_pairs f (x ∷ xs) [] none = refl
no_named_pairs f (x ∷ xs) (y ∷ ys) none =
    elim none [
      | inl first ↦ absurd (omega (arith, first))
      | inr second ↦ absurd (omega (arith, second))
    ]

-- ---- frames

-- the texts of the frames from an index on: that of the one there, and those of the ones after it
frames_from : (f : Frame → List ℕ) (frames : List Frame) (i : ℕ) → flat_map f (drop i frames) ≡ option_map_or f (slice_get frames i) [] ++ flat_map f (drop (suc i) frames)
frames_from f [] zero = refl
frames_from f [] (suc i) = refl
frames_from f (frame ∷ below) zero = refl
frames_from f (frame ∷ below) (suc i) = frames_from f below i

-- a text, with the frames that are left, is the same after the frame at an index was appended
pub frame_appended : (f : Frame → List ℕ) (frames : List Frame) (i : ℕ) (before after all : List ℕ)
    → after ≡ before ++ option_map_or f (slice_get frames i) []
    → before ++ flat_map f (drop i frames) ≡ all
    → after ++ flat_map f (drop (i + 1) frames) ≡ all
frame_appended f frames i before after all appended whole =
    ap (λ (n : ℕ). after ++ flat_map f (drop n frames)) (add-one i)
    ∙ ap (λ (text : List ℕ). text ++ flat_map f (drop (suc i) frames)) appended
    ∙ append_assoc before (option_map_or f (slice_get frames i) []) (flat_map f (drop (suc i) frames))
    ∙ ap (λ (text : List ℕ). before ++ text) (sym (frames_from f frames i))
    ∙ whole

-- a first word, and pairs of a name and a value
pub named_values : (first : List ℕ) (vs : List (List ℕ × ℕ)) → first ++ flat_map (λ v. 32 ∷ phrase_text (value_words v)) vs ≡ phrase_text (first ∷ flat_map value_words vs)
named_values first vs =
    let after_space : List ℕ → List ℕ = λ word. 32 ∷ word in
    let both : (List ℕ × ℕ) → List ℕ = λ v. 32 ∷ phrase_text (value_words v) in
    ap (λ (text : List ℕ). first ++ text)
    (flat_map_agree both (λ v. flat_map after_space (value_words v)) (λ v. ap (λ (text : List ℕ). 32 ∷ (v.0 ++ 32 ∷ text)) (sym (append-nil (decimal v.1)))) vs
    ∙ sym (flat_map-flat_map after_space value_words vs))
    ∙ sym (joined (λ (word : List ℕ). word) first (flat_map value_words vs))
    ∙ ap (join_with_byte 32) (map-same (first ∷ flat_map value_words vs))

-- ---- what is registered

-- phrases in five parts
five_parts : (a b c d e : List Phrase) → (after_commas a ++ after_commas b) ++ (after_commas c ++ (after_commas d ++ after_commas e)) ≡ after_commas ((((a ++ b) ++ c) ++ d) ++ e)
five_parts a b c d e =
    sym (append_assoc (after_commas a ++ after_commas b) (after_commas c) (after_commas d ++ after_commas e))
    ∙ sym (append_assoc ((after_commas a ++ after_commas b) ++ after_commas c) (after_commas d) (after_commas e))
    ∙ sym
    (more_phrases (((a ++ b) ++ c) ++ d) e
    ∙ ap (λ (text : List ℕ). text ++ after_commas e)
    (more_phrases ((a ++ b) ++ c) d
    ∙ ap (λ (text : List ℕ). text ++ after_commas d) (more_phrases (a ++ b) c ∙ ap (λ (text : List ℕ). text ++ after_commas c) (more_phrases a b))))

-- how far a process is, its exit functions, its fork handlers and its once controls were appended
pub registered_text : {E : Type 0} (r : Result (Unit {0}) E) (old t0 t1 t2 new : List ℕ) (script : Script) (exit_value : Option ℕ) (restricted : Bool) (functions : List ℕ) (registrations handlers : List ForkHandlers) (onces : List Phrase)
    → registrations ≡ handlers
    → t0 ≡ old ++ (after_commas (exit_phrases exit_value) ++ after_commas (restricted_phrases restricted))
    → t1 ≡ t0 ++ flat_map (λ f. codes ", " ++ phrase_text (exit_function_phrase script f)) functions
    → t2 ≡ t1 ++ flat_map (λ h. codes ", " ++ phrase_text (fork_handlers_phrase script h)) registrations
    → OnOk r (new ≡ t2 ++ after_commas onces)
    → OnOk r (new ≡ old ++ after_commas (exit_phrases exit_value ++ restricted_phrases restricted ++ map (exit_function_phrase script) functions ++ map (fork_handlers_phrase script) handlers ++ onces))
registered_text r old t0 t1 t2 new script exit_value restricted functions registrations handlers onces same first second third last =
    let progress = after_commas (exit_phrases exit_value) ++ after_commas (restricted_phrases restricted) in
    let of_functions : List ℕ = flat_map (λ f. codes ", " ++ phrase_text (exit_function_phrase script f)) functions in
    let of_handlers : List ForkHandlers → List ℕ = flat_map (λ h. codes ", " ++ phrase_text (fork_handlers_phrase script h)) in
    let later = of_handlers registrations ++ after_commas onces in
    as_text r old new (progress ++ (of_functions ++ later)) _
    ((λ i. progress ++ (sym (each_phrase (exit_function_phrase script) functions) i ++ ((ap of_handlers same ∙ sym (each_phrase (fork_handlers_phrase script) handlers)) i ++ after_commas onces)))
    ∙ five_parts (exit_phrases exit_value) (restricted_phrases restricted) (map (exit_function_phrase script) functions) (map (fork_handlers_phrase script) handlers) onces)
    (then_text r old t0 new progress (of_functions ++ later) first
    (then_text r t0 t1 new of_functions later second
    (then_text r t1 t2 new (of_handlers registrations) (after_commas onces) third last)))

-- a list without a first item
pub none_first : {X : Type 0} (xs : List X) (first : Option X) → first ≡ slice_get xs 0 → ((x : X) → first ≡ Some x → ⊥) → xs ≡ []
none_first [] first is none = refl
none_first (x ∷ xs) first is none = absurd (none x is)

-- ---- all places

pub all_keys : (script : Script) (places : List KeyPlace) (n : ℕ) → n ≡ MAX_KEYS → after_commas (flat_map (key_on script places) (range_with_len 0 n)) ≡ after_commas (key_phrases script places)
unfolding key_phrases
all_keys script places n is = ap (λ (count : ℕ). after_commas (flat_map (key_on script places) (range_with_len 0 count))) is

pub all_values : (places : List KeyPlace) (own : KeyValues) (n : ℕ) → n ≡ MAX_KEYS → after_commas (flat_map (specific_on places own) (range_with_len 0 n)) ≡ after_commas (specific_phrases places own)
unfolding specific_phrases
all_values places own n is = ap (λ (count : ℕ). after_commas (flat_map (specific_on places own) (range_with_len 0 count))) is
