-- Among all that was entered for a claim, the slots of one scope are not taken for another's: so what is known of a scope by its own slots is known by all.
use Rattle.std.specs.Prelude.{◌≡◌, ◌⊎◌, Bool, true, false, List, [], ◌∷◌, ◌++◌, ℕ, suc, ◌+◌, ◌*◌, ◌%◌, ◌<◌, ◌≤◌}
use Rattle.std.proofs.Math.Path.{refl}
use Rattle.std.proofs.Common.{sym, ap, ◌∙◌, inl, inr, ⊎_elim, append_assoc, append-nil, arith, length-append}
use Rattle.std.proofs.Math.ListN.{length}
use Rattle.kit.specs.Pick.{pick}
use Rattle.parts.specs.declared.Parts.{Parts}
use Rattle.names.specs.Table.{Slot, space_of, find_in}
use Rattle.rules.specs.Versions.{RuleSet, top_name}
use Rattle.rules.specs.Rows.{Decl, Close, encode}
use Rattle.rules.specs.Tree.{Head, Scope, scope, Fields, end, ◌▸◌, Item, plain, holds, head_of, head_rows, flatten, fields_rows, item_rows}
use Rattle.rules.specs.Good.{GoodScope, GoodFields, GoodItem}
use Rattle.rules.specs.Readings.{is_inserted}
use Rattle.rules.specs.Laws.ToolLaws.{All, done, ◌&◌, all_append, all_map}
use Rattle.checking.specs.Check.{reached}
use Rattle.checking.proofs.Laws.AddedFields.{IsAdded, AddedScope, AddedFields, AddedItem}
use Rattle.claim_scopes.specs.Entries.{entry_key_t, slot_t}
use Rattle.claim_numbers.specs.Count.{no_counts, more_count_t}
use Rattle.claim_numbers.specs.Enter.{decl_slot}
use Rattle.claim_reach.specs.Alias.{reach_counted_t}
use Rattle.claim_laws.specs.RowParts.{as_parts, scope_size, fields_size, holds_size, head_size, item_size, Stands, stands_first, stands_second}
use Rattle.claim_laws.specs.Keys.{or_found, find_append, other_first, other_last, Other, Of, Within, wider, key_is}
use Rattle.claim_laws.specs.AliasShape.{good_head}
use Rattle.claim_laws.specs.Slots.{Declared, head_declared, declared_in, counts_by, slot_of, slots_of, slots_append, scope_slots, fields_slots, item_slots}
use Rattle.claim_laws.specs.Found.{Apt}
use Rattle.claim_laws.specs.Known.{AliasAt, Known, own_known, declared_few, head_apt, is_added, fields_apt, fields_placed}

-- ---- the slots of a scope are of its rows

slot_within : (k : ℕ) (c : List ℕ) (x : Declared) → suc k < 65536 → Apt x → Of k (k + 2) (slot_of k c x)
unfolding slot_of decl_slot slot_t as_parts encode pick
slot_within k c x l A = go (is_inserted x.head) refl
  where
    go : (b : Bool) → is_inserted x.head ≡ b → Of k (k + 2) (slot_of k c x)
    go true e =
        let s = A.space in
        let m : k % 65536 ≡ k = omega arith in
        let q : entry_key_t (k % 65536 + 1) x.decl.space ≡ 257 * (k + 1) + x.decl.space = rw m (key_is (k + 1) x.decl.space (omega arith)) in
        rw e (record { low = omega arith; high = omega arith })
    go false e =
        let s = A.space in
        let q = key_is k x.decl.space (omega arith) in
        rw e (record { low = omega arith; high = omega arith })

slots_within : (k : ℕ) (c : List ℕ) (xs : List Declared) → suc k < 65536 → All Apt xs → Within k (k + 2) (slots_of k c xs)
unfolding slots_of
slots_within k c [] l done = done
slots_within k c (x ∷ xs) l (A & As) = slot_within k c x l A & slots_within k (more_count_t c x.decl.space) xs l As

module _ (at : ℕ → Parts) (rules : RuleSet) where
  fields_within_next : (i : Item) (fs : Fields) (kind k n : ℕ) (c : List ℕ) → GoodItem rules i kind → All Apt (head_declared n (head_of i)) → suc k ≤ n → n + length (fields_rows (i ▸ fs)) < 65536
      → Within (n + length (head_rows (head_of i))) (n + length (item_rows i)) (item_slots (n + length (head_rows (head_of i))) i)
      → Within k (suc (n + length (item_rows i) + length (fields_rows fs))) (fields_slots k (n + length (item_rows i)) (counts_by c (head_declared n (head_of i))) fs) → Within k (suc (n + length (fields_rows (i ▸ fs)))) (fields_slots k n c (i ▸ fs))
  unfolding scope_slots
  fields_within_next i fs kind k n c g A l h p q =
      let e = fields_size i fs in
      let s = head_size (head_of i) in
      let t = item_size i in
      all_append (slots_of k c (head_declared n (head_of i))) _ (wider k (k + 2) k _ _ (omega arith) (omega arith) (slots_within k c (head_declared n (head_of i)) (omega arith) A))
      (all_append (item_slots (n + length (head_rows (head_of i))) i) _ (wider _ _ k _ _ (omega arith) (omega arith) p) (wider k _ k _ _ (omega arith) (omega arith) q))

  end_within : (k n : ℕ) (c : List ℕ) (hi : ℕ) → Within k hi (fields_slots k n c end)
  unfolding scope_slots
  end_within k n c hi = done

  scope_within_is : (kind name n : ℕ) (fs : Fields) → Within n (suc (suc n + length (fields_rows fs))) (fields_slots n (suc n) no_counts fs) → Within n (n + length (flatten (scope kind name fs))) (scope_slots n (scope kind name fs))
  unfolding scope_slots
  scope_within_is kind name n fs p = let e = scope_size kind name fs in wider n _ n _ _ (omega arith) (omega arith) p

  item_within_is : (n : ℕ) (h : Head) (s : Scope) → Within (n + length (head_rows h)) (n + length (head_rows h) + length (flatten s)) (scope_slots (n + length (head_rows h)) s) → Within (n + length (head_rows h)) (n + length (item_rows (holds h s))) (item_slots (n + length (head_rows h)) (holds h s))
  unfolding scope_slots
  item_within_is n h s p = let e = holds_size h s in wider _ _ _ _ _ (omega arith) (omega arith) p

  plain_within : (lo hi n : ℕ) (h : Head) → Within lo hi (item_slots n (plain h))
  unfolding scope_slots
  plain_within lo hi n h = done

  mutual
    unfolding head_of

    scope_within : (s : Scope) (n : ℕ) → GoodScope rules s → AddedScope s → n + length (flatten s) ≤ 65536 → Within n (n + length (flatten s)) (scope_slots n s)
    scope_within (scope kind name fs) n g a l =
        let e = scope_size kind name fs in
        scope_within_is kind name n fs (fields_within fs kind n (suc n) no_counts g a (omega arith) (omega arith))

    fields_within : (fs : Fields) (kind k n : ℕ) (c : List ℕ) → GoodFields rules fs kind → AddedFields fs → suc k ≤ n → n + length (fields_rows fs) < 65536 → Within k (suc (n + length (fields_rows fs))) (fields_slots k n c fs)
    fields_within end kind k n c g a l h = end_within k n c _
    fields_within (i ▸ fs) kind k n c g a l h =
        let e = fields_size i fs in
        fields_within_next i fs kind k n c g.0 (head_apt at rules kind n (head_of i) (good_head rules i kind g.0) (is_added at rules i a.0)) l h (item_within i kind n g.0 a.1 (omega arith))
        (fields_within fs kind k (n + length (item_rows i)) (counts_by c (head_declared n (head_of i))) g.1 a.2 (omega arith) (omega arith))

    item_within : (i : Item) (kind n : ℕ) → GoodItem rules i kind → AddedItem i → n + length (item_rows i) ≤ 65536 → Within (n + length (head_rows (head_of i))) (n + length (item_rows i)) (item_slots (n + length (head_rows (head_of i))) i)
    item_within (plain h) kind n g a l = plain_within _ _ _ h
    item_within (holds h s) kind n g a l = let e = holds_size h s in item_within_is n h s (scope_within s (n + length (head_rows h)) g.3 a (omega arith))

  -- ---- slots of other rows

  abbrev Away : (lo hi : ℕ) → Slot → Type 0
  Away lo hi s = (space_of s < 257 * lo) ⊎ (257 * hi ≤ space_of s)

  before_away : (lo hi lo' hi' : ℕ) (ss : List Slot) → hi ≤ lo' → Within lo hi ss → All (Away lo' hi') ss
  before_away lo hi lo' hi' ss l p = all_map ss (λ s o. let h = o.high in inl (omega arith)) p

  behind_away : (lo hi lo' hi' : ℕ) (ss : List Slot) → hi' ≤ lo → Within lo hi ss → All (Away lo' hi') ss
  behind_away lo hi lo' hi' ss l p = all_map ss (λ s o. let h = o.low in inr (omega arith)) p

  nearer : (lo hi lo' hi' : ℕ) (ss : List Slot) → lo ≤ lo' → hi' ≤ hi → All (Away lo hi) ss → All (Away lo' hi') ss
  nearer lo hi lo' hi' ss l h p = all_map ss (λ s o. ⊎_elim (λ (u : space_of s < 257 * lo). inl (omega arith)) (λ (u : 257 * hi ≤ space_of s). inr (omega arith)) o) p

  away_other : (lo hi k space : ℕ) (ss : List Slot) → lo ≤ k → k < hi → k < 65536 → space < 256 → All (Away lo hi) ss → All (Other (entry_key_t k space)) ss
  away_other lo hi k space ss l h low narrow p =
      let q = key_is k space low in
      all_map ss (λ s o e. ⊎_elim (λ (u : space_of s < 257 * lo). omega arith) (λ (u : 257 * hi ≤ space_of s). omega arith) o) p

  within_other : (lo hi k space : ℕ) (ss : List Slot) → suc k ≤ lo → k < 65536 → space < 256 → Within lo hi ss → All (Other (entry_key_t k space)) ss
  within_other lo hi k space ss l low narrow p = let q = key_is k space low in all_map ss (λ s o e. let h = o.low in omega arith) p

  -- ---- the slots of one scope, among those of the scopes inside it

  own_next : (k n : ℕ) (c : List ℕ) (i : Item) (fs : Fields) (key name : ℕ) → All (Other key) (item_slots (n + length (head_rows (head_of i))) i)
      → find_in (fields_slots k (n + length (item_rows i)) (counts_by c (head_declared n (head_of i))) fs) key name ≡ find_in (slots_of k (counts_by c (head_declared n (head_of i))) (declared_in (n + length (item_rows i)) fs)) key name
      → find_in (fields_slots k n c (i ▸ fs)) key name ≡ find_in (slots_of k c (declared_in n (i ▸ fs))) key name
  unfolding scope_slots declared_in
  own_next k n c i fs key name o f =
      let own = slots_of k c (head_declared n (head_of i)) in
      let inner = item_slots (n + length (head_rows (head_of i))) i in
      let rest = fields_slots k (n + length (item_rows i)) (counts_by c (head_declared n (head_of i))) fs in
      find_append own (inner ++ rest) key name
      ∙ rw (other_first inner rest key name o, f, slots_append k c (head_declared n (head_of i)) (declared_in (n + length (item_rows i)) fs)) (sym (find_append own _ key name))

  end_own : (k n : ℕ) (c : List ℕ) (key name : ℕ) → find_in (fields_slots k n c end) key name ≡ find_in (slots_of k c (declared_in n end)) key name
  unfolding scope_slots declared_in slots_of
  end_own k n c key name = refl

  fields_own : (fs : Fields) (kind k n : ℕ) (c : List ℕ) (j space name : ℕ) → j ≤ n → space < 256 → GoodFields rules fs kind → AddedFields fs → n + length (fields_rows fs) < 65536
      → find_in (fields_slots k n c fs) (entry_key_t j space) name ≡ find_in (slots_of k c (declared_in n fs)) (entry_key_t j space) name
  fields_own end kind k n c j space name l narrow g a h = end_own k n c (entry_key_t j space) name
  fields_own (i ▸ fs) kind k n c j space name l narrow g a h =
      let e = fields_size i fs in
      let s = head_size (head_of i) in
      let t = item_size i in
      own_next k n c i fs (entry_key_t j space) name (within_other _ _ j space _ (omega arith) (omega arith) narrow (item_within i kind n g.0 a.1 (omega arith)))
      (fields_own fs kind k (n + length (item_rows i)) (counts_by c (head_declared n (head_of i))) j space name (omega arith) narrow g.1 a.2 (omega arith))

  -- ---- what is known of each scope

  abbrev mutual
    pub KnownScope : (ss : List Slot) (n : ℕ) → Scope → Type 0
    KnownScope ss n (scope kind name fs) = Known at ss n fs × KnownFields ss (suc n) fs

    pub KnownFields : (ss : List Slot) (n : ℕ) → Fields → Type 0
    KnownFields ss n end = Unit {0}
    KnownFields ss n (i ▸ fs) = KnownItem ss (n + length (head_rows (head_of i))) i × KnownFields ss (n + length (item_rows i)) fs

    pub KnownItem : (ss : List Slot) (n : ℕ) → Item → Type 0
    KnownItem ss n (plain h) = Unit {0}
    KnownItem ss n (holds h s) = KnownScope ss n s

  -- by its own slots and others
  among : (ss pre mid post : List Slot) (key name : ℕ) → ss ≡ pre ++ (mid ++ post) → All (Other key) pre → All (Other key) post → find_in ss key name ≡ find_in mid key name
  among ss pre mid post key name e p q = rw e (other_first pre (mid ++ post) key name p ∙ other_last mid post key name q)

  known_here : (kind n : ℕ) (fs : Fields) (ss pre post : List Slot) → ss ≡ pre ++ (fields_slots n (suc n) no_counts fs ++ post) → GoodFields rules fs kind → AddedFields fs → Stands at (suc n) (fields_rows fs) → suc n + length (fields_rows fs) < 65536
      → All (Away n (suc (suc n))) pre → All (Away n (suc (suc n))) post → Known at ss n fs
  known_here kind n fs ss pre post e g a s l p q =
      let few = declared_few (suc n) fs in
      let K = own_known at n fs (omega arith) (omega arith) (fields_apt at rules fs kind (suc n) g a) (fields_placed at rules fs kind (suc n) g a s l) in
      let find-is : (j space name : ℕ) → n ≤ j → j < suc (suc n) → space < 256 → find_in ss (entry_key_t j space) name ≡ find_in (slots_of n no_counts (declared_in (suc n) fs)) (entry_key_t j space) name =
      λ j space name u v w. among ss pre (fields_slots n (suc n) no_counts fs) post (entry_key_t j space) name e (away_other n (suc (suc n)) j space pre u v (omega arith) w p) (away_other n (suc (suc n)) j space post u v (omega arith) w q)
      ∙ fields_own fs kind n (suc n) no_counts j space name (omega arith) w g a l in
      record {
        names = λ space name w low. find-is n space name (omega arith) (omega arith) w ∙ K.names space name w low;
        aliases = λ space m w. rw (find-is (n + 1) space (reach_counted_t m) (omega arith) (omega arith) w) (K.aliases space m w);
      }

  -- the slots around those of an item
  record Around (ss pre post : List Slot) (k n : ℕ) (c : List ℕ) (fs : Fields) : Type 0 where
    are : ss ≡ pre ++ (fields_slots k n c fs ++ post)
    before : All (Away (suc n) (n + length (fields_rows fs))) pre
    behind : All (Away (suc n) (n + length (fields_rows fs))) post

  -- those of the fields behind the first
  around_next : (ss pre post : List Slot) (kind k n : ℕ) (c : List ℕ) (i : Item) (fs : Fields) → GoodFields rules (i ▸ fs) kind → AddedFields (i ▸ fs) → suc k ≤ n → n + length (fields_rows (i ▸ fs)) < 65536 → Around ss pre post k n c (i ▸ fs)
      → Around ss (pre ++ (slots_of k c (head_declared n (head_of i)) ++ item_slots (n + length (head_rows (head_of i))) i)) post k (n + length (item_rows i)) (counts_by c (head_declared n (head_of i))) fs
  unfolding scope_slots
  around_next ss pre post kind k n c i fs g a l h A =
      let own = slots_of k c (head_declared n (head_of i)) in
      let inner = item_slots (n + length (head_rows (head_of i))) i in
      let e = fields_size i fs in
      let s = head_size (head_of i) in
      let t = item_size i in
      record {
        are = A.are ∙ simp append_assoc;
        before = all_append pre (own ++ inner) (nearer _ _ _ _ pre (omega arith) (omega arith) A.before)
            (all_append own inner (before_away k (k + 2) _ _ own (omega arith) (slots_within k c (head_declared n (head_of i)) (omega arith) (head_apt at rules kind n (head_of i) (good_head rules i kind g.0) (is_added at rules i a.0))))
            (before_away _ _ _ _ inner (omega arith) (item_within i kind n g.0 a.1 (omega arith))));
        behind = nearer _ _ _ _ post (omega arith) (omega arith) A.behind;
      }

  -- fields behind some rows
  away_next : (kind k n lo hi : ℕ) (c : List ℕ) (i : Item) (fs : Fields) → k + 2 ≤ lo → hi ≤ n → GoodItem rules i kind → (is_inserted (head_of i) ≡ true → IsAdded i) → AddedItem i → suc k ≤ n → n + length (item_rows i) < 65536
      → All (Away lo hi) (fields_slots k (n + length (item_rows i)) (counts_by c (head_declared n (head_of i))) fs) → All (Away lo hi) (fields_slots k n c (i ▸ fs))
  unfolding scope_slots
  away_next kind k n lo hi c i fs l h g t a u v p =
      let own = slots_of k c (head_declared n (head_of i)) in
      let inner = item_slots (n + length (head_rows (head_of i))) i in
      all_append own _ (before_away k (k + 2) lo hi own l (slots_within k c (head_declared n (head_of i)) (omega arith) (head_apt at rules kind n (head_of i) (good_head rules i kind g) (is_added at rules i t))))
      (all_append inner _ (behind_away _ _ lo hi inner (omega arith) (item_within i kind n g a (omega arith))) p)

  end_away : (k n lo hi : ℕ) (c : List ℕ) → All (Away lo hi) (fields_slots k n c end)
  unfolding scope_slots
  end_away k n lo hi c = done

  fields_away : (fs : Fields) (kind k n lo hi : ℕ) (c : List ℕ) → k + 2 ≤ lo → hi ≤ n → GoodFields rules fs kind → AddedFields fs → suc k ≤ n → n + length (fields_rows fs) < 65536 → All (Away lo hi) (fields_slots k n c fs)
  fields_away end kind k n lo hi c l h g a u v = end_away k n lo hi c
  fields_away (i ▸ fs) kind k n lo hi c l h g a u v =
      let e = fields_size i fs in
      away_next kind k n lo hi c i fs l h g.0 a.0 a.1 u (omega arith) (fields_away fs kind k (n + length (item_rows i)) lo hi (counts_by c (head_declared n (head_of i))) l (omega arith) g.1 a.2 (omega arith) (omega arith))

  -- those of the scope that the first holds
  record Inside (ss : List Slot) (n : ℕ) (s : Scope) : Type 0 where
    pre : List Slot
    post : List Slot
    are : ss ≡ pre ++ (scope_slots n s ++ post)
    before : All (Away n (n + length (flatten s))) pre
    behind : All (Away n (n + length (flatten s))) post

  inside_first : (ss pre post : List Slot) (kind k n : ℕ) (c : List ℕ) (h : Head) (s : Scope) (fs : Fields) → GoodFields rules (holds h s ▸ fs) kind → AddedFields (holds h s ▸ fs) → suc k ≤ n → n + length (fields_rows (holds h s ▸ fs)) < 65536
      → Around ss pre post k n c (holds h s ▸ fs) → Inside ss (n + length (head_rows h)) s
  unfolding scope_slots head_of
  inside_first ss pre post kind k n c h s fs g a l b A =
      let own = slots_of k c (head_declared n h) in
      let rest = fields_slots k (n + length (item_rows (holds h s))) (counts_by c (head_declared n h)) fs in
      let e = fields_size (holds h s) fs in
      let q = head_size h in
      let t = holds_size h s in
      record {
        pre = pre ++ own;
        post = rest ++ post;
        are = A.are ∙ simp append_assoc;
        before = all_append pre own (nearer _ _ _ _ pre (omega arith) (omega arith) A.before)
            (before_away k (k + 2) _ _ own (omega arith) (slots_within k c (head_declared n h) (omega arith) (head_apt at rules kind n h g.0.0 (is_added at rules (holds h s) a.0))));
        behind = all_append rest post (fields_away fs kind k (n + length (item_rows (holds h s))) _ _ (counts_by c (head_declared n h)) (omega arith) (omega arith) g.1 a.2 (omega arith) (omega arith)) (nearer _ _ _ _ post (omega arith) (omega arith) A.behind);
      }

  inside_fields : (ss pre post : List Slot) (kind name n : ℕ) (fs : Fields) → ss ≡ pre ++ (scope_slots n (scope kind name fs) ++ post) → All (Away n (n + length (flatten (scope kind name fs)))) pre → All (Away n (n + length (flatten (scope kind name fs)))) post
      → Around ss pre post n (suc n) no_counts fs
  unfolding scope_slots
  inside_fields ss pre post kind name n fs e p q =
      let s = scope_size kind name fs in
      record { are = e; before = nearer _ _ _ _ pre (omega arith) (omega arith) p; behind = nearer _ _ _ _ post (omega arith) (omega arith) q }

  scope_here : (ss pre post : List Slot) (kind name n : ℕ) (fs : Fields) → ss ≡ pre ++ (scope_slots n (scope kind name fs) ++ post) → GoodFields rules fs kind → AddedFields fs → Stands at (suc n) (fields_rows fs) → n + length (flatten (scope kind name fs)) ≤ 65536
      → All (Away n (n + length (flatten (scope kind name fs)))) pre → All (Away n (n + length (flatten (scope kind name fs)))) post → Known at ss n fs
  unfolding scope_slots
  scope_here ss pre post kind name n fs e g a s l p q =
      let z = scope_size kind name fs in
      known_here kind n fs ss pre post e g a s (omega arith) (nearer _ _ _ _ pre (omega arith) (omega arith) p) (nearer _ _ _ _ post (omega arith) (omega arith) q)

  stands_fields : (kind name n : ℕ) (fs : Fields) → Stands at n (flatten (scope kind name fs)) → Stands at (suc n) (fields_rows fs)
  unfolding flatten
  stands_fields kind name n fs s = stands_first at (suc n) (fields_rows fs) (Close ∷ []) s.1

  stands_next : (n : ℕ) (i : Item) (fs : Fields) → Stands at n (fields_rows (i ▸ fs)) → Stands at n (item_rows i) × Stands at (n + length (item_rows i)) (fields_rows fs)
  unfolding flatten
  stands_next n i fs s = (stands_first at n (item_rows i) (fields_rows fs) s, stands_second at n (item_rows i) (fields_rows fs) s)

  stands_held : (n : ℕ) (h : Head) (s : Scope) → Stands at n (item_rows (holds h s)) → Stands at (n + length (head_rows h)) (flatten s)
  unfolding flatten
  stands_held n h s q = stands_second at n (head_rows h) (flatten s) q

  mutual
    unfolding head_of

    known_scope : (s : Scope) (n : ℕ) (ss pre post : List Slot) → ss ≡ pre ++ (scope_slots n s ++ post) → GoodScope rules s → AddedScope s → Stands at n (flatten s) → n + length (flatten s) ≤ 65536
        → All (Away n (n + length (flatten s))) pre → All (Away n (n + length (flatten s))) post → KnownScope ss n s
    known_scope (scope kind name fs) n ss pre post e g a s l p q =
        let z = scope_size kind name fs in
        let t = stands_fields kind name n fs s in
        (scope_here ss pre post kind name n fs e g a t l p q, known_fields fs kind n (suc n) no_counts ss pre post g a t (omega arith) (omega arith) (inside_fields ss pre post kind name n fs e p q))

    known_fields : (fs : Fields) (kind k n : ℕ) (c : List ℕ) (ss pre post : List Slot) → GoodFields rules fs kind → AddedFields fs → Stands at n (fields_rows fs) → suc k ≤ n → n + length (fields_rows fs) < 65536 → Around ss pre post k n c fs → KnownFields ss n fs
    known_fields end kind k n c ss pre post g a s l h A = tt
    known_fields (i ▸ fs) kind k n c ss pre post g a s l h A =
        let e = fields_size i fs in
        let t = stands_next n i fs s in
        (known_item i fs kind k n c ss pre post g a t.0 l h A, known_fields fs kind k (n + length (item_rows i)) (counts_by c (head_declared n (head_of i))) ss _ post g.1 a.2 t.1 (omega arith) (omega arith) (around_next ss pre post kind k n c i fs g a l h A))

    known_item : (i : Item) (fs : Fields) (kind k n : ℕ) (c : List ℕ) (ss pre post : List Slot) → GoodFields rules (i ▸ fs) kind → AddedFields (i ▸ fs) → Stands at n (item_rows i) → suc k ≤ n → n + length (fields_rows (i ▸ fs)) < 65536 → Around ss pre post k n c (i ▸ fs)
        → KnownItem ss (n + length (head_rows (head_of i))) i
    known_item (plain h) fs kind k n c ss pre post g a s l b A = tt
    known_item (holds h t) fs kind k n c ss pre post g a s l b A =
        let I = inside_first ss pre post kind k n c h t fs g a l b A in
        let e = fields_size (holds h t) fs in
        let q = holds_size h t in
        known_scope t (n + length (head_rows h)) ss I.pre I.post I.are g.0.3 a.1 (stands_held n h t s) (omega arith) I.before I.behind

  -- What is found among all that was entered for a claim.
  pub all_known : (c : Scope) → GoodScope rules c → AddedScope c → Stands at 0 (flatten c) → length (flatten c) ≤ 65536 → KnownScope (scope_slots 0 c) 0 c
  all_known c g a s l = known_scope c 0 (scope_slots 0 c) [] [] (sym (append-nil (scope_slots 0 c))) g a s (omega arith) done done
