-- The slots of a process after a change of one of them, and after a change of threads.
use Rattle.pct_names.proofs.Names.{◌*◌, ◌+◌, ◌++◌, ◌<◌, [], All, All-cons, All-head, All-tail, ap, arith, Bool, cond, false, filter}
use Rattle.pct_names.proofs.Names.{holds_slot, length, length-map, List, list_any, map, map-id, nat_eq, NewThread, None, none-some, Option}
use Rattle.pct_names.proofs.Names.{option_map, option_map_or, or_right, refl, same_Some, SharedState, slice_get, slice_get-get_or}
use Rattle.pct_names.proofs.Names.{slice_get-map, slice_get_within, slice_set, slot_of, Some, subst, suc, sym, Thread, true, zero, ◌||◌, ℕ}
use Rattle.pct_names.proofs.Names.{◌∙◌, ◌∷◌, ◌≡◌, ◌≢◌}
use Rattle.std.proofs.Common.{ne_eqb}
use Rattle.std.proofs.Math.Path.{fun_ext}
use Rattle.std.proofs.lemmas.List.{length-set, get_or-set_same}
use Rattle.pct_engine_laws.specs.Seen.{SeenSlot, on_slot}
use Rattle.pct_engine_laws.specs.SeenSteps.{is_empty, new_ids_from}
use Rattle.pct_engine_laws.proofs.ListFacts.{filter_changed, map-map}
use Rattle.pct_engine_laws.proofs.ThreadChanges.{KeepsSlots}
use Rattle.pct_process.specs.ProcessViews.{ProcessData}
use Rattle.pct_actions.specs.ProcessChanges.{IsOnSlot, AreOnSlots}
use Rattle.pct_actions.specs.ProcessParts.{on_threads, slot_changed, NewFits}

-- ---- a change of one slot

module _ (k : ℕ) (slots : List SeenSlot) (s : SeenSlot) (here : slice_get slots k ≡ Some s) where
  pub on_slot-here : (f : SeenSlot → SeenSlot) → on_slot k f slots ≡ slice_set slots k (f s)
  on_slot-here f = ap (λ (o : Option SeenSlot). option_map_or (λ x. slice_set slots k (f x)) o slots) here

  pub changed_here : (f : SeenSlot → SeenSlot) → slice_get (on_slot k f slots) k ≡ Some (f s)
  changed_here f =
      let inside : k < length (slice_set slots k (f s)) = rw (length-set slots k (f s)) (slice_get_within slots k s here) in
      ap (λ (xs : List SeenSlot). slice_get xs k) (on_slot-here f) ∙ slice_get-get_or (slice_set slots k (f s)) k s inside ∙ ap (λ (x : SeenSlot). Some x) (get_or-set_same slots k (f s) s (slice_get_within slots k s here))

-- two changes of all slots that have one outcome
each_agrees : (f g : SeenSlot → SeenSlot) (slots : List SeenSlot) → ((j : ℕ) (x : SeenSlot) → slice_get slots j ≡ Some x → f x ≡ g x) → map f slots ≡ map g slots
each_agrees f g [] same = refl
each_agrees f g (x ∷ slots) same = ap (λ (y : SeenSlot). y ∷ map f slots) (same 0 x refl) ∙ ap (λ (rest : List SeenSlot). g x ∷ rest) (each_agrees f g slots (λ j y at. same (suc j) y at))

-- a change of one slot is that of all slots, if it changes no other
one_of_all : (f : SeenSlot → SeenSlot) (k : ℕ) (slots : List SeenSlot) (s : SeenSlot) → slice_get slots k ≡ Some s → ((j : ℕ) (x : SeenSlot) → j ≢ k → slice_get slots j ≡ Some x → f x ≡ x) → slice_set slots k (f s) ≡ map f slots
one_of_all f k [] s here others = absurd (none-some s here)
one_of_all f zero (x ∷ slots) s here others =
    ap (λ (y : SeenSlot). f y ∷ slots) (sym (same_Some x s here))
    ∙ ap (λ (rest : List SeenSlot). f x ∷ rest) (sym (each_agrees f (λ y. y) slots (λ j y at. others (suc j) y (λ e. omega (arith, e)) at) ∙ map-id slots))
one_of_all f (suc k) (x ∷ slots) s here others =
    ap (λ (y : SeenSlot). y ∷ slice_set slots k (f s)) (sym (others 0 x (λ e. omega (arith, e)) refl))
    ∙ ap (λ (rest : List SeenSlot). f x ∷ rest) (one_of_all f k slots s here (λ j y differs at. others (suc j) y (λ e. differs (omega (arith, e))) at))

-- ---- a change of the thread with an id

-- threads that a change leaves alone stay
stay : (f : Thread → Thread) (n k : ℕ) (ts : List Thread) → ((t : Thread) → slot_of n t.id ≡ k → f t ≡ t) → All (IsOnSlot n k) ts → filter holds_slot (map f ts) ≡ ts
stay f n k [] same on = refl
stay f n k (t ∷ ts) same on =
    let first : IsOnSlot n k t = All-head (IsOnSlot n k) t ts on in
    let rest : List Thread = filter holds_slot (map f ts) in
    ap (λ (x : Thread). cond (holds_slot x) (x ∷ rest) rest) (same t first.on)
    ∙ ap (λ (b : Bool). cond b (t ∷ rest) rest) first.holds
    ∙ ap (λ (xs : List Thread). t ∷ xs) (stay f n k ts same (All-tail (IsOnSlot n k) t ts on))

module _ (slots : List SeenSlot) (on : AreOnSlots slots) (f : Thread → Thread) where
  slot_stays : (j : ℕ) (x : SeenSlot) → slice_get slots j ≡ Some x → ((t : Thread) → slot_of (length slots) t.id ≡ j → f t ≡ t) → slot_changed f x ≡ x
  slot_stays j x at same i = record { made = x.made; here = stay f (length slots) j x.here same (on j x at) i }

  -- no slot changes, if the change leaves each thread alone
  pub none_changed : ((t : Thread) → f t ≡ t) → map (slot_changed f) slots ≡ slots
  none_changed same = each_agrees (slot_changed f) (λ x. x) slots (λ j x at. slot_stays j x at (λ t is. same t)) ∙ map-id slots

  -- no thread leaves its slot, if the change keeps whether the thread holds it
  pub none_leaves : ((t : Thread) → holds_slot (f t) ≡ holds_slot t) → map (on_threads f) slots ≡ map (slot_changed f) slots
  none_leaves same = each_agrees (on_threads f) (slot_changed f) slots (λ j x at i. record { made = x.made; here = all j x.here (on j x at) i }) where
    all : (j : ℕ) (ts : List Thread) → All (IsOnSlot (length slots) j) ts → map f ts ≡ filter holds_slot (map f ts)
    all j [] was = refl
    all j (t ∷ ts) was =
        ap (λ (xs : List Thread). f t ∷ xs) (all j ts (All-tail (IsOnSlot (length slots) j) t ts was))
        ∙ sym (ap (λ (b : Bool). cond b (f t ∷ filter holds_slot (map f ts)) (filter holds_slot (map f ts))) (same t ∙ (All-head (IsOnSlot (length slots) j) t ts was).holds))

  module _ (id : ℕ) (others : (t : Thread) → nat_eq t.id id ≡ false → f t ≡ t) where
    -- only the slot of the id changes, if the change leaves each thread with another id alone
    pub one_changed : (k : ℕ) (s : SeenSlot) → k ≡ slot_of (length slots) id → slice_get slots k ≡ Some s → on_slot k (slot_changed f) slots ≡ map (slot_changed f) slots
    one_changed k s is here =
        on_slot-here k slots s here (slot_changed f)
        ∙ one_of_all (slot_changed f) k slots s here (λ j x differs at. slot_stays j x at (λ t placed. others t (ne_eqb t.id id (λ same. differs (sym placed ∙ ap (slot_of (length slots)) same ∙ sym is)))))

  -- the threads on each slot hold it after a change
  pub on_slots_kept : KeepsSlots f → AreOnSlots (map (slot_changed f) slots)
  on_slots_kept keeps j x at = by (slice_get slots j) refl (sym (slice_get-map (slot_changed f) slots j) ∙ at) where
    kept : (ts : List Thread) → All (IsOnSlot (length slots) j) ts → All (IsOnSlot (length slots) j) (filter holds_slot (map f ts))
    kept [] was = was
    kept (t ∷ ts) was = either (holds_slot (f t)) refl (kept ts (All-tail (IsOnSlot (length slots) j) t ts was)) where
      either : (b : Bool) → holds_slot (f t) ≡ b → All (IsOnSlot (length slots) j) (filter holds_slot (map f ts)) → All (IsOnSlot (length slots) j) (cond b (f t ∷ filter holds_slot (map f ts)) (filter holds_slot (map f ts)))
      either true holds rest = All-cons (IsOnSlot (length slots) j) (f t) (filter holds_slot (map f ts)) (record { on = ap (slot_of (length slots)) (keeps.same_id t) ∙ (All-head (IsOnSlot (length slots) j) t ts was).on; holds = holds }) rest
      either false holds rest = rest

    by : (o : Option SeenSlot) → slice_get slots j ≡ o → option_map (slot_changed f) o ≡ Some x → All (IsOnSlot (length (map (slot_changed f) slots)) j) x.here
    by None before is = absurd (none-some x is)
    by (Some s) before is =
        subst (λ (n : ℕ). All (IsOnSlot n j) x.here) (sym (length-map slots (slot_changed f)))
        (subst (λ (y : SeenSlot). All (IsOnSlot (length slots) j) y.here) (same_Some (slot_changed f s) x is) (kept s.here (on j s before)))

-- one change of threads after another
pub change_after : (f g : Thread → Thread) → KeepsSlots g → (slots : List SeenSlot) → map (slot_changed g) (map (slot_changed f) slots) ≡ map (slot_changed (λ t. g (f t))) slots
change_after f g keeps slots =
    map-map (slot_changed g) (slot_changed f) slots
    ∙ ap (λ (h : SeenSlot → SeenSlot). map h slots) (fun_ext (λ s i. record {
      made = s.made;
      here = (sym (filter_changed (λ t. true) holds_slot g (λ t. refl) keeps.reclaimed (map f s.here)) ∙ ap (filter holds_slot) (map-map g f s.here)) i;
    }))

-- ---- the ids that a new thread can get

later_among : (n : ℕ) (b : Bool) (x : ℕ) (rest : List ℕ) → list_any (nat_eq n) rest ≡ true → list_any (nat_eq n) (cond b (x ∷ []) [] ++ rest) ≡ true
later_among n true x rest among = or_right (nat_eq n x) (list_any (nat_eq n) rest) among
later_among n false x rest among = among

either_kept : (a b c : Bool) → (b ≡ true → c ≡ true) → (a || b) ≡ true → (a || c) ≡ true
either_kept true b c kept among = refl
either_kept false b c kept among = kept among

-- they stay after a change of threads
ids_stay : (f : Thread → Thread) (n slots s : ℕ) (rows : List SeenSlot) → list_any (nat_eq n) (new_ids_from slots s rows) ≡ true → list_any (nat_eq n) (new_ids_from slots s (map (slot_changed f) rows)) ≡ true
ids_stay f n slots s [] among = among
ids_stay f n slots s (row ∷ rows) among = by row.here (ids_stay f n slots (s + 1) rows) among where
  by : (ts : List Thread) → (list_any (nat_eq n) (new_ids_from slots (s + 1) rows) ≡ true → list_any (nat_eq n) (new_ids_from slots (s + 1) (map (slot_changed f) rows)) ≡ true)
      → list_any (nat_eq n) (cond (is_empty ts) ((1 + s + slots * row.made) ∷ []) [] ++ new_ids_from slots (s + 1) rows) ≡ true
      → list_any (nat_eq n) (cond (is_empty (filter holds_slot (map f ts))) ((1 + s + slots * row.made) ∷ []) [] ++ new_ids_from slots (s + 1) (map (slot_changed f) rows)) ≡ true
  by [] later among = either_kept (nat_eq n (1 + s + slots * row.made)) (list_any (nat_eq n) (new_ids_from slots (s + 1) rows)) (list_any (nat_eq n) (new_ids_from slots (s + 1) (map (slot_changed f) rows))) later among
  by (t ∷ ts) later among = later_among n (is_empty (filter holds_slot (map f (t ∷ ts)))) (1 + s + slots * row.made) (new_ids_from slots (s + 1) (map (slot_changed f) rows)) (later among)

pub new_stays : (created : Option NewThread) (f : Thread → Thread) (p : ProcessData) (shared : SharedState) → NewFits created p → NewFits created (record { slots = map (slot_changed f) p.slots; shared = shared })
new_stays None f p shared among = tt
new_stays (Some new) f p shared among =
    subst (λ (n : ℕ). list_any (nat_eq new.id) (new_ids_from n 0 (map (slot_changed f) p.slots)) ≡ true) (sym (length-map p.slots (slot_changed f))) (ids_stay f new.id (length p.slots) 0 p.slots among)
