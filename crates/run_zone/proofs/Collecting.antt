-- A collection is a line
use Rattle.std.proofs.Common.{◌≡◌, ◌≤◌, ◌<◌, ◌+◌, inl, inr, ℕ, zero, suc, false, List, [], ◌∷◌, ◌++◌, length, replicate, refl, sym, ap, subst, ◌∙◌, append_assoc, append-nil, arith}
use Rattle.std.specs.Bool.{⊤}
use Rattle.az_base.specs.declared.action.Mode.{Mode}
use Rattle.az_base.specs.declared.options.Options.{Options}
use Rattle.zone_model.specs.declared.act.Act.TheVariants as act
use Rattle.zone_model.specs.declared.call.Call.{Call}
use Rattle.zone_model.specs.declared.call.Call.TheVariants as call
use Rattle.zone_model.specs.declared.entry.Entry.{Entry}
use Rattle.zone_model.specs.declared.entry.Reply.{Reply}
use Rattle.zone_model.specs.History.{calls_of, IsGroup}
use Rattle.zone_model.specs.Part.{Part, PartStep, PartRun, opening_part, Solo, is_local}
use Rattle.zone_gate.specs.declared.cut.Cut.{Cut}
use Rattle.zone_gate.specs.Shown.{SeatShown}
use Rattle.local_set.specs.LocalSets.{LocalSet, part_in}
use Rattle.auto_zone.specs.Sessions.{SamePlace}
use Rattle.auto_zone.specs.Collects.{PlacesIn, last_of, Collected}
use Rattle.run_zone.specs.Works.{CutsFit, last_length, Lines}

-- calls that are local nowhere
abbrev SharedCalls : List Call → Type 0
SharedCalls [] = ⊤
SharedCalls (c ∷ cs) = ((p : Part) → is_local p c ≡ false) × SharedCalls cs

abbrev SharedEntries : List Entry → Type 0
SharedEntries [] = ⊤
SharedEntries (e ∷ es) = ((p : Part) → is_local p e.call ≡ false) × SharedEntries es

head_is : (a b : Call) (xs ys : List Call) → a ∷ xs ≡ b ∷ ys → a ≡ b
head_is a b xs ys h = cc

tail_is : (a b : Call) (xs ys : List Call) → a ∷ xs ≡ b ∷ ys → xs ≡ ys
tail_is a b xs ys h = cc

entries_shared : (es : List Entry) (cs : List Call) → calls_of es ≡ cs → SharedCalls cs → SharedEntries es
entries_shared [] cs h s = tt
entries_shared (e ∷ es) [] h s = absurd cc
entries_shared (e ∷ es) (c ∷ cs) h s = (λ p. ap (is_local p) (head_is e.call c (calls_of es) cs h) ∙ s.0 p, entries_shared es cs (tail_is e.call c (calls_of es) cs h) s.1)

finals_shared : (n : ℕ) → SharedCalls (replicate n call.Finalise ++ call.Reclaim ∷ [])
finals_shared zero = (λ p. refl, tt)
finals_shared (suc n) = (λ p. refl, finals_shared n)

group_shared : (mode : Mode) (group : List Entry) → IsGroup (act.Collect mode) group → SharedEntries group
group_shared mode group (inl r) = subst SharedEntries (sym r.1) (λ p. ap (is_local p) r.2, tt)
group_shared mode group (inr k) =
    subst SharedEntries (sym k.3) (λ p. ap (is_local p) k.4, entries_shared k.1 (call.Condemn ∷ replicate k.2 call.Finalise ++ call.Reclaim ∷ []) k.6 (λ p. refl, finals_shared k.2))

-- the n-th entry, where it is one of these
abbrev At : Part → List Entry → ℕ → Type 0
At p es n = (front : List Entry) × (e : Entry) × (rest : List Entry) × (q : Part) × (es ≡ front ++ e ∷ rest) × (length front + 1 ≡ n) × PartRun p front q × (is_local q e.call ≡ false)

one_on : (p : Part) (b : Entry) (es : List Entry) (n : ℕ) (mid : Part) → PartStep p b.call b.reply mid → At mid es n → At p (b ∷ es) (suc n)
one_on p b es n mid own at = (b ∷ at.0, at.1, at.2, at.3, ap (λ w. b ∷ w) at.4, next (length at.0) n at.5, (mid, own, at.6), at.7)
  where
    next : (k n : ℕ) → k + 1 ≡ n → suc k + 1 ≡ suc n
    next k n h = omega (arith, h)

at_group : (p : Part) (group : List Entry) (last : Part) → PartRun p group last → SharedEntries group → (n : ℕ) → 0 < n → n ≤ length group → At p group n
at_group p [] last run s n low high = absurd (omega (arith, low, high))
at_group p (e ∷ es) last run s zero low high = absurd (omega (arith, low))
at_group p (e ∷ es) last run s (suc zero) low high = ([], e, es, p, refl, refl, refl, s.0 p)
at_group p (e ∷ es) last run s (suc (suc n)) low high = one_on p e es (suc n) run.0 run.1 (at_group run.0 es last run.2 s.1 (suc n) (omega arith) (omega (arith, high)))

at_place : (p : Part) (base group : List Entry) (last : Part) → PartRun p (base ++ group) last → SharedEntries group → (n : ℕ) → length base < n → n ≤ length base + length group → At p (base ++ group) n
at_place p [] group last run s n low high = at_group p group last run s n low (omega (arith, high))
at_place p (b ∷ base) group last run s zero low high = absurd (omega (arith, low))
at_place p (b ∷ base) group last run s (suc n) low high = one_on p b (base ++ group) n run.0 run.1 (at_place run.0 base group last run.2 s n (omega (arith, low)) (omega (arith, high)))

places_fit : (o : Options) (own base group : List Entry) (last : Part) → own ≡ base ++ group → Solo o own last → SharedEntries group → (m : ℕ) (xs : List Cut) → PlacesIn (length base) (length group) xs → CutsFit o own m xs
places_fit o own base group last is solo s m [] p = tt
places_fit o own base group last is solo s m (x ∷ xs) p =
    (inl (subst (λ es. At (opening_part o) es x.length) (sym is) (at_place (opening_part o) base group last (subst (λ es. PartRun (opening_part o) es last) is solo) s x.length p.0 p.1)), places_fit o own base group last is solo s x.length xs p.2)

last_same : (m : ℕ) (xs : List Cut) → last_of m xs ≡ last_length m xs
last_same m [] = refl
last_same m (x ∷ xs) = last_same x.length xs

pub lines_collected : (s u : SeatShown) (l m : LocalSet) (mode : Mode) (budget : ℕ) (r : Reply) → SamePlace s u → Collected s u l m mode budget r → Lines s u l m (act.Collect mode ∷ [])
lines_collected s u l m mode budget r place k = record {
  place = place;
  entries = k.group;
  groups = (k.group, [], sym (append-nil k.group), k.is_group, refl);
  own = ap (λ w. u.own ++ w) k.out ∙ append-nil u.own ∙ k.own;
  grows = (l.waiting ++ k.group, sym (append_assoc s.own l.waiting k.group) ∙ sym k.own);
  begins = k.begins;
  cuts = (
    k.cuts.0 ∷ k.cuts.1,
    k.cuts.2,
    places_fit s.options u.own (s.own ++ l.waiting) k.group (part_in m) k.own k.solo_after (group_shared mode k.group k.is_group) (length s.own) (k.cuts.0 ∷ k.cuts.1) k.cuts.3,
    sym (last_same k.cuts.0.length k.cuts.1) ∙ k.cuts.4,
  );
}
