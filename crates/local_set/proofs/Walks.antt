-- A walk along references finds what the registers lead to, and ends
use Rattle.az_base.proofs.Ids.{eq_ids, same_is, same_self, among_cases, among_kept, among_last}
use Rattle.std.proofs.Common.{◌≡◌, ℕ, ◌+◌, ◌<◌, ◌≤◌, suc, Bool, true, false, cond, ◌||◌, List, [], ◌∷◌, ◌++◌, length, Option, Some, None, is_some, slice_get, option_map, refl, sym, ap, subst, ◌∙◌, arith, ◌⊎◌, inl, inr}
use Rattle.std.proofs.lemmas.Option.{slice_get-map}
use Rattle.std.specs.Map.{lookup, remove_entry}
use Rattle.std.specs.List.{list_any}
use Rattle.std.specs.Option.{option_map_or}
use Rattle.indexmap.specs.IndexSet.{insert_key}
use Rattle.std.specs.FinMap.{get, contains_key}
use Rattle.az_base.specs.declared.block_id.BlockId.{BlockId}
use Rattle.az_base.specs.declared.word.Word.{Word}
use Rattle.az_base.specs.declared.word.Word.TheVariants as word
use Rattle.az_base.specs.Ids.{among, same_id, id_eq}
use Rattle.zone_model.specs.State.{Block, referent}
use Rattle.zone_model.specs.Reach.{WordEdge, Path, Leads}
use Rattle.local_set.specs.LocalSets.{blocks_of}
use Rattle.local_set.specs.Tables.{Distinct}
use Rattle.local_set.specs.Walks.{Map, referents_of, words_at, Visits, VisitsAll, IsIn, IsReached}
use Rattle.local_set.proofs.Tables.{got}
use Rattle.local_set.proofs.Lists.{some_id, or_true, among_of, place_of, get_kept, distinct_more, last_or_before, within, has}

-- the first n of these blocks were visited
pub record Visited (m : Map) (old new : List BlockId) (helds : List (Option BlockId)) (n : ℕ) : Type 0 where
  pub kept : (k : ℕ) (q : BlockId) → slice_get old k ≡ Some q → slice_get new k ≡ Some q
  pub added : (q : BlockId) → among new q ≡ true → (among old q ≡ true) ⊎ ((contains_key m q ≡ true) × (i : ℕ) × (slice_get helds i ≡ Some (Some q)))
  pub closed : (i : ℕ) (q : BlockId) → i < n → slice_get helds i ≡ Some (Some q) → contains_key m q ≡ true → among new q ≡ true
  pub stays : (q : BlockId) → among old q ≡ true → among new q ≡ true
  pub distinct : Distinct old → Distinct new

pub visited_none : (m : Map) (old : List BlockId) (helds : List (Option BlockId)) → Visited m old old helds 0
visited_none m old helds = record { kept = λ k q h. h; added = λ q h. inl h; closed = λ i q l. absurd (omega (arith, l)); stays = λ q h. h; distinct = λ d. d }

held_is : (a b : Option BlockId) → Some a ≡ Some b → a ≡ b
held_is a b h = cc

pub visited_more : (m : Map) (old mid new : List BlockId) (helds : List (Option BlockId)) (n : ℕ) (held : Option BlockId) → Visited m old mid helds n → slice_get helds n ≡ Some held → Visits m mid new held → Visited m old new helds (n + 1)
visited_more m old mid new helds n held v is visits = go held refl visits
  where
    same : mid ≡ new → ((q : BlockId) → held ≡ Some q → contains_key m q ≡ true → among mid q ≡ true) → Visited m old new helds (n + 1)
    same e here = subst (λ x. Visited m old x helds (n + 1)) e record {
      kept = v.kept;
      added = v.added;
      closed = λ i q l at own. elim (last_or_before n i l) [
        | inl before ↦ v.closed i q before at own
        | inr this ↦ here q (held_is held (Some q) (sym is ∙ ap (slice_get helds) (sym this) ∙ at)) own
      ];
      stays = v.stays;
      distinct = v.distinct;
    }

    more : (id : BlockId) → held ≡ Some id → mid ++ id ∷ [] ≡ new → contains_key m id ≡ true → among mid id ≡ false → Visited m old new helds (n + 1)
    more id ref e own fresh = subst (λ x. Visited m old x helds (n + 1)) e record {
      kept = λ k q h. get_kept mid (id ∷ []) k q (v.kept k q h);
      added = λ q h. elim (among_cases mid id q h) [
        | inl was ↦ v.added q was
        | inr now ↦ inr (subst (λ x. contains_key m x ≡ true) (sym now) own, n, is ∙ ap Some ref ∙ ap (λ b. Some (Some b)) (sym now))
      ];
      closed = λ i q l at own. elim (last_or_before n i l) [
        | inl before ↦ among_kept mid id q (v.closed i q before at own)
        | inr this ↦ subst (λ x. among (mid ++ id ∷ []) x ≡ true) (some_id id q (sym ref ∙ held_is held (Some q) (sym is ∙ ap (slice_get helds) (sym this) ∙ at))) (among_last mid id)
      ];
      stays = λ q h. among_kept mid id q (v.stays q h);
      distinct = λ d. distinct_more mid id (v.distinct d) fresh;
    }

    go : (o : Option BlockId) → held ≡ o → Visits m mid new o → Visited m old new helds (n + 1)
    go None e v = same (sym v) (λ q h. let no : None ≡ Some q = sym e ∙ h in cc (no))
    go (Some id) e v = elim v [
      | inl there ↦ same (sym there.0) (λ q h own. let this : id ≡ q = some_id id q (sym e ∙ h) in subst (λ x. among mid x ≡ true) this (there.1 (subst (λ x. contains_key m x ≡ true) (sym this) own)))
      | inr added ↦ more id e (sym added.0) added.1 added.2
    ]

pub visited_all : (m : Map) (old new : List BlockId) (helds : List (Option BlockId)) (n : ℕ) → length helds ≤ n → Visited m old new helds n → VisitsAll m old new helds
visited_all m old new helds n l v = record {
  kept = v.kept;
  added = v.added;
  closed = λ i q at own. let b : i < length helds = within helds i (Some q) at in v.closed i q (omega (arith, b, l)) at own;
  stays = v.stays;
  distinct = v.distinct;
}

-- a word that refers to the block, at the place of its reference
word_of : (ws : List Word) (i : ℕ) (q : BlockId) → slice_get (referents_of ws) i ≡ Some (Some q) → slice_get ws i ≡ Some (word.Block q)
word_of ws i q h = go (slice_get ws i) refl (sym (slice_get-map (λ (w : Word). referent (Some w)) ws i) ∙ h)
  where
    one : (w : Word) → slice_get ws i ≡ Some w → Some (referent (Some w)) ≡ Some (Some q) → slice_get ws i ≡ Some (word.Block q)
    one word.Null e f = cc
    one (word.Number n) e f = cc
    one (word.Block b) e f = e ∙ ap (λ x. Some (word.Block x)) (some_id b q (held_is (Some b) (Some q) f))

    go : (o : Option Word) → slice_get ws i ≡ o → option_map (λ (w : Word). referent (Some w)) o ≡ Some (Some q) → slice_get ws i ≡ Some (word.Block q)
    go None e f = cc
    go (Some w) e f = one w e f

of_word : (ws : List Word) (i : ℕ) (q : BlockId) → slice_get ws i ≡ Some (word.Block q) → slice_get (referents_of ws) i ≡ Some (Some q)
of_word ws i q h = slice_get-map (λ (w : Word). referent (Some w)) ws i ∙ ap (option_map (λ (w : Word). referent (Some w))) h

-- a word of the block a refers to b
edge_at : (m : Map) (a b : BlockId) (i : ℕ) → slice_get (words_at m a) i ≡ Some (word.Block b) → WordEdge m a b
edge_at m a b i h = go (get m a) refl h
  where
    go : (o : Option Block) → get m a ≡ o → slice_get (option_map_or (λ (b : Block). b.words) o []) i ≡ Some (word.Block b) → WordEdge m a b
    go None e h = cc
    go (Some k) e h = (k, i, e, h)

at_edge : (m : Map) (a b : BlockId) → WordEdge m a b → (i : ℕ) × (slice_get (words_at m a) i ≡ Some (word.Block b))
at_edge m a b edge = (edge.1, ap (λ (o : Option Block). slice_get (option_map_or (λ (b : Block). b.words) o []) edge.1) edge.2 ∙ edge.3)

path_more : (m : Map) (a : BlockId) (steps : List BlockId) (b c : BlockId) → Path (WordEdge m) a steps b → WordEdge m b c → Leads (WordEdge m) a c
path_more m a [] b c p r = (c ∷ [], (subst (λ x. WordEdge m x c) (sym p) r, refl))
path_more m a (d ∷ steps) b c p r = let rest = path_more m d steps b c p.1 r in (d ∷ rest.0, (p.0, rest.1))

-- blocks that are there, each once, that the registers lead to
pub record Walked (m : Map) (registers : List (Option BlockId)) (ids : List BlockId) : Type 0 where
  pub own : (q : BlockId) → among ids q ≡ true → contains_key m q ≡ true
  pub led : (q : BlockId) → among ids q ≡ true → (f : BlockId) × IsIn registers f × Leads (WordEdge m) f q
  pub begun : (f : BlockId) → IsIn registers f → contains_key m f ≡ true → among ids f ≡ true
  pub distinct : Distinct ids

-- the list after the registers were visited
pub walked_first : (m : Map) (registers : List (Option BlockId)) (new : List BlockId) → VisitsAll m [] new registers → Walked m registers new
walked_first m registers new v = record {
  own = λ q h. elim (v.added q h) [ inl was ↦ cc | inr now ↦ now.0 ];
  led = λ q h. elim (v.added q h) [ inl was ↦ cc | inr now ↦ (q, (now.1, now.2), ([], refl)) ];
  begun = λ f h own. v.closed h.0 f h.1 own;
  distinct = v.distinct tt;
}

-- the references of one more block were followed
pub walked_more : (m : Map) (registers : List (Option BlockId)) (old new : List BlockId) (at : ℕ) (a : BlockId) → Walked m registers old → slice_get old at ≡ Some a → VisitsAll m old new (referents_of (words_at m a)) → Walked m registers new
walked_more m registers old new at a w is v = record {
  own = λ q h. elim (v.added q h) [ inl was ↦ w.own q was | inr now ↦ now.0 ];
  led = λ q h. elim (v.added q h) [
    | inl was ↦ w.led q was
    | inr now ↦ let from = w.led a (among_of old at a is) in (from.0, from.1, path_more m from.0 from.2.0 a q from.2.1 (edge_at m a q now.1 (word_of (words_at m a) now.1 q now.2)))
  ];
  begun = λ f h own. v.stays f (w.begun f h own);
  distinct = v.distinct w.distinct;
}

-- the references of the first `at` blocks lead to nothing new
abbrev pub Done : Map → List BlockId → ℕ → Type 0
Done m ids at = (k : ℕ) (a b : BlockId) → k < at → slice_get ids k ≡ Some a → WordEdge m a b → contains_key m b ≡ true → among ids b ≡ true

pub done_none : (m : Map) (ids : List BlockId) → Done m ids 0
done_none m ids k a b l = absurd (omega (arith, l))

pub done_more : (m : Map) (old new : List BlockId) (at : ℕ) (c : BlockId) → slice_get old at ≡ Some c → VisitsAll m old new (referents_of (words_at m c)) → Done m old at → Done m new (at + 1)
done_more m old new at c is v done k a b l asked r own = elim (last_or_before at k l) [
  | inl before ↦
      let was = has old k (let lt : at < length old = within old at c is in omega (arith, before, lt)) in
      let e : was.0 ≡ a = some_id was.0 a (sym (v.kept k was.0 was.1) ∙ asked) in
      v.stays b (done k a b before (was.1 ∙ ap Some e) r own)
  | inr this ↦
      let e : c ≡ a = some_id c a (sym (v.kept at c is) ∙ ap (slice_get new) (sym this) ∙ asked) in
      let edge = at_edge m a b r in
      v.closed edge.0 b (of_word (words_at m c) edge.0 b (ap (λ x. slice_get (words_at m x) edge.0) e ∙ edge.1)) own
]

-- a path between blocks that ends at one that is there stays among what was found
closed_path : (m : Map) (ids : List BlockId) (a : BlockId) (steps : List BlockId) (q : BlockId) → ((a b : BlockId) → among ids a ≡ true → WordEdge m a b → contains_key m b ≡ true → among ids b ≡ true)
    → Path (WordEdge m) a steps q → contains_key m q ≡ true → (contains_key m a ≡ true → among ids a ≡ true) → among ids q ≡ true
closed_path m ids a [] q closed p there begun = subst (λ x. among ids x ≡ true) p (begun (subst (λ x. contains_key m x ≡ true) (sym p) there))
closed_path m ids a (b ∷ steps) q closed p there begun = closed_path m ids b steps q closed p.1 there (λ own. closed a b (begun (ap is_some p.0.2)) p.0 own)

pub all_reached : (m : Map) (registers : List (Option BlockId)) (ids : List BlockId) (at : ℕ) → length ids ≤ at → Walked m registers ids → Done m ids at → IsReached m registers ids
all_reached m registers ids at l w done q = (
  λ h. let led = w.led q h in (w.own q h, led.0, led.1, led.2),
  λ h. closed_path m ids h.1 h.3.0 q closed h.3.1 h.0 (w.begun h.1 h.2),
)
  where
    closed : (a b : BlockId) → among ids a ≡ true → WordEdge m a b → contains_key m b ≡ true → among ids b ≡ true
    closed a b h r own = let place = place_of ids a h in let lt : place.0 < length ids = within ids place.0 a place.1 in done place.0 a b (omega (arith, l, lt)) place.1 r own

-- blocks that stand in the table, each once, are no more than it has
length_removed : (id : BlockId) (es : List (BlockId × Block)) (b : Block) → lookup (id_eq id) es ≡ Some b → length es ≡ suc (length (remove_entry (id_eq id) es))
length_removed id [] b h = cc
length_removed id (e ∷ es) b h = go (id_eq id e.0) refl h (length_removed id es b)
  where
    go : (t : Bool) → id_eq id e.0 ≡ t → cond t (Some e.1) (lookup (id_eq id) es) ≡ Some b → (lookup (id_eq id) es ≡ Some b → length es ≡ suc (length (remove_entry (id_eq id) es)))
        → suc (length es) ≡ suc (length (cond t es (e ∷ remove_entry (id_eq id) es)))
    go true t h rest = refl
    go false t h rest = ap suc (rest h)

lookup_other : (id q : BlockId) (es : List (BlockId × Block)) → id_eq q id ≡ false → lookup (id_eq q) (remove_entry (id_eq id) es) ≡ lookup (id_eq q) es
lookup_other id q [] h = refl
lookup_other id q (e ∷ es) h = go (id_eq id e.0) refl (id_eq q e.0) refl (lookup_other id q es h)
  where
    go : (a : Bool) → id_eq id e.0 ≡ a → (b : Bool) → id_eq q e.0 ≡ b → lookup (id_eq q) (remove_entry (id_eq id) es) ≡ lookup (id_eq q) es
        → lookup (id_eq q) (cond a es (e ∷ remove_entry (id_eq id) es)) ≡ cond b (Some e.1) (lookup (id_eq q) es)
    go true i true j rest = let no : false ≡ true = sym h ∙ ap (id_eq q) (same_is id e.0 (sym (eq_ids id e.0) ∙ i)) ∙ j in cc (no)
    go true i false j rest = refl
    go false i true j rest = rw j refl
    go false i false j rest = rw j rest

there : (es : List (BlockId × Block)) (q : BlockId) → contains_key (blocks_of es) q ≡ true → (b : Block) × (lookup (id_eq q) es ≡ Some b)
there es q h = go (lookup (id_eq q) es) refl (sym (ap is_some (got es q)) ∙ h)
  where
    go : (o : Option Block) → lookup (id_eq q) es ≡ o → is_some o ≡ true → (b : Block) × (lookup (id_eq q) es ≡ Some b)
    go None e h = cc
    go (Some b) e h = (b, e)

no_more : (ids : List BlockId) (es : List (BlockId × Block)) → Distinct ids → ((q : BlockId) → among ids q ≡ true → (b : Block) × (lookup (id_eq q) es ≡ Some b)) → length ids ≤ length es
no_more [] es d there = omega arith
no_more (id ∷ ids) es d there =
    let here = there id (ap (λ b. b || among ids id) (same_self id)) in
    let less : length es ≡ suc (length (remove_entry (id_eq id) es)) = length_removed id es here.0 here.1 in
    let rest : length ids ≤ length (remove_entry (id_eq id) es) = no_more ids (remove_entry (id_eq id) es) d.1 (λ q h.
    let found = there q (ap (λ b. same_id q id || b) h ∙ or_true (same_id q id)) in
    (found.0, lookup_other id q es (eq_ids q id ∙ apart q h (same_id q id) refl) ∙ found.1)) in
    omega arith
  where
    apart : (q : BlockId) → among ids q ≡ true → (b : Bool) → same_id q id ≡ b → same_id q id ≡ false
    apart q h true e = let no : false ≡ true = sym d.0 ∙ ap (among ids) (sym (same_is q id e)) ∙ h in cc (no)
    apart q h false e = e

pub few_found : (es : List (BlockId × Block)) (registers : List (Option BlockId)) (ids : List BlockId) → Walked (blocks_of es) registers ids → length ids ≤ length es
few_found es registers ids w = no_more ids es w.distinct (λ q h. there es q (w.own q h))

-- a test that is one at each id is the same test
tests : (ks : List BlockId) (id : BlockId) → list_any (id_eq id) ks ≡ among ks id
tests [] id = refl
tests (k ∷ ks) id = ap (λ b. b || list_any (id_eq id) ks) (eq_ids id k) ∙ ap (λ b. same_id id k || b) (tests ks id)

-- a block that is there was put into the set
pub inserted_visits : (m : Map) (old new : List BlockId) (id : BlockId) → contains_key m id ≡ true → new ≡ insert_key id_eq old id → Visits m old new (Some id)
inserted_visits m old new id there is = go (among old id) refl
  where
    go : (b : Bool) → among old id ≡ b → ((new ≡ old) × (contains_key m id ≡ true → among old id ≡ true)) ⊎ ((new ≡ old ++ id ∷ []) × (contains_key m id ≡ true) × (among old id ≡ false))
    go true e = inl (is ∙ ap (λ b. cond b old (old ++ id ∷ [])) (tests old id ∙ e), λ _. e)
    go false e = inr (is ∙ ap (λ b. cond b old (old ++ id ∷ [])) (tests old id ∙ e), there, e)

pub word_visits : (m : Map) (old new : List BlockId) (w : Word) (held : Option BlockId) → held ≡ referent (Some w) → Visits m old new held → Visits m old new (referent (Some w))
word_visits m old new w held e v = subst (Visits m old new) e v

pub next_referent : (ws : List Word) (i : ℕ) (w : Word) → slice_get ws i ≡ Some w → slice_get (referents_of ws) i ≡ Some (referent (Some w))
next_referent ws i w h = slice_get-map (λ (w : Word). referent (Some w)) ws i ∙ ap (option_map (λ (w : Word). referent (Some w))) h

-- what the block at a place of the walk refers to was visited
pub visits_there : (m : Map) (old new : List BlockId) (at : ℕ) (id q : BlockId) (ws : List Word) → slice_get old at ≡ Some id → option_map (λ (b : Block). b.words) (get m id) ≡ Some ws → slice_get old at ≡ Some q
    → VisitsAll m old new (referents_of ws) → VisitsAll m old new (referents_of (words_at m q))
visits_there m old new at id q ws is words asked v =
    subst (λ (l : List Word). VisitsAll m old new (referents_of l)) (go (get m id) words ∙ ap (words_at m) (some_id id q (sym is ∙ asked))) v
  where
    some_words : (a b : List Word) → Some a ≡ Some b → b ≡ a
    some_words a b h = cc

    go : (o : Option Block) → option_map (λ (b : Block). b.words) o ≡ Some ws → ws ≡ option_map_or (λ (b : Block). b.words) o []
    go None h = cc
    go (Some b) h = some_words b.words ws h
