-- Settling over a graph, beside the state that it shows
use Rattle.std.proofs.Common.{◌≡◌, ◌∙◌, ℕ, ◌+◌, Bool, true, false, None, List, find, refl, subst, inl, inr, IsTrue, IsFalse, ◌≢◌, ◌&&◌, filter, ap, sym}
use Rattle.az_base.specs.declared.action.Mode.{Mode}
use Rattle.az_base.specs.declared.block_id.BlockId.{BlockId}
use Rattle.az_base.specs.Ids.{among}
use Rattle.quantum_space.specs.declared.shade.Shade.{Shade}
use Rattle.quantum_space.specs.declared.shade.Shade.TheVariants as shade
use Rattle.quantum_space.specs.Shapes.{Shape, Shades, Has, edges}
use Rattle.quantum_space.proofs.Lists.{has_or_not, has_among, among_has, has_filter, filter_has}
use Rattle.gen_marker.specs.Marking.{NoGrey, in_scope, is_left, is_white}
use Rattle.gen_marker.proofs.Marks.{white_or_not}
use Rattle.gen_marker.specs.Tight.{Tight}
use Rattle.zone_model.specs.State.{State, is_unescaped, without}
use Rattle.zone_model.specs.Collection.{Lists, Reclaims, HasCondemned, awaits}
use Rattle.finalise_pass.specs.Kept.{IsKeptIn, IsWatched, IsWithin, ShowsState, inside}
use Rattle.finalise_pass.proofs.Keeping.{true_or_not, all_inside, kept_lists_alike, gone_lists_alike}
use Rattle.cycle_laws.specs.Shown.{Shows, Watches, IsWithinScope}
use Rattle.zone_model.specs.Reached.{IsRooted}
use Rattle.cycle_laws.proofs.Finished.{one_only}

module _ (m : Mode) (z : State) (s : Shape) (r : List BlockId) (shows : Shows m z s) (rooted : IsRooted z) (inner : IsWithinScope m s r) where
  within : IsWithin r s.blocks
  within b t = (inner b t).0

  -- an unescaped block isn't condemned
  outside : (a : BlockId) → IsTrue (is_unescaped z a) → IsFalse (among r a)
  outside a u = elim (true_or_not (among r a)) [ inl t ↦ absurd (one_only z a (shows.escaped a (within a t)) u) | inr f ↦ f ]

  pub shows_state : ShowsState z s r
  shows_state = record {
    within = within;
    inner = shows.real;
    outer = λ a b t e. elim (rooted a b e) [ inl k ↦ inl (shows.full a b k e) | inr u ↦ inr (shows.below b (within b t) (inner b t).1 (a, u, e)) ];
    held = λ a t h. shows.held a (within a t) (inner a t).1 h;
    anchor = λ a h. elim (shows.anchor a h) [ inl k ↦ inl k | inr f ↦ inr (f.0, outside f.0 f.1, f.2) ];
  }

  -- what settling asks for
  pub watched : Watches z s r → IsWatched s r
  watched watches = record {
    edge = λ a b f t e. elim (rooted a b (shows.real a b e)) [
      | inl k ↦ watches a b k f t e
      | inr u ↦ inr (shows.below b (within b t) (inner b t).1 (a, u, shows.real a b e))
    ];
  }

  -- so its lists are those of a Reclaim
  pub settled_reclaims : (t : ℕ) (kept gone : List BlockId) → HasCondemned z t r → find (awaits z) r ≡ None
      → Lists kept (λ b. IsTrue (among (inside s r) b) × IsKeptIn s (inside s r) b) → Lists gone (λ b. IsTrue (among (inside s r) b) × ¬ IsKeptIn s (inside s r) b)
      → Reclaims z t gone kept (record (without z gone) { reclaims = z.reclaims + 1; cycle = None })
  settled_reclaims t kept gone condemned done k g =
      let same = all_inside s r within in record {
        r = r;
        condemned = condemned;
        finalised = done;
        kept_ones = kept_lists_alike z s r shows_state kept (subst (λ (xs : List BlockId). Lists kept (λ b. IsTrue (among xs b) × IsKeptIn s xs b)) same k);
        gone_ones = gone_lists_alike z s r shows_state gone (subst (λ (xs : List BlockId). Lists gone (λ b. IsTrue (among xs b) × (¬ IsKeptIn s xs b))) same g);
        does = refl;
      }

white_test : (f : Shade) → is_white f ≡ true → f ≡ shade.White
white_test shade.White e = refl
white_test shade.Grey e = cc
white_test shade.Black e = cc

both : (x y : Bool) → (x && y) ≡ true → (x ≡ true) × (y ≡ true)
both true y e = (refl, e)
both false y e = cc

dark_is_black : (f : Shade) → f ≢ shade.White → f ≢ shade.Grey → f ≡ shade.Black
dark_is_black shade.White w g = absurd (w refl)
dark_is_black shade.Grey w g = absurd (g refl)
dark_is_black shade.Black w g = refl

-- as marking ends no edge leads into the white blocks in scope, and so nothing has to be remembered yet
pub nothing_leads_in : (m : Mode) (s : Shape) (f : Shades) (r : List BlockId) → Tight m s f → NoGrey s.blocks f → ((b : BlockId) → among r b ≡ among (filter (is_left m s f) s.blocks) b)
    → (a b : BlockId) → IsFalse (among r a) → IsTrue (among r b) → Has (edges s a) b → ⊥
nothing_leads_in m s f r tight none same a b out i e =
    let h = has_filter (is_left m s f) s.blocks b (among_has (filter (is_left m s f) s.blocks) b (sym (same b) ∙ i)) in
    let p = both (is_white (f b)) (in_scope m s b) h.1 in
    let white = white_test (f b) p.0 in
    elim (has_or_not s.blocks a) [
      | inr n ↦ tight.dark a b (inl n) e h.0 p.1 white
      | inl ha ↦ elim (white_or_not (f a)) [
        | inr d ↦ tight.dark a b (inr (ha, inl (dark_is_black (f a) d (none a ha)))) e h.0 p.1 white
        | inl w ↦ elim (true_or_not (in_scope m s a)) [
          | inr o ↦ tight.dark a b (inr (ha, inr (w, o))) e h.0 p.1 white
          | inl t ↦ (let here = same a ∙ has_among (filter (is_left m s f) s.blocks) a (filter_has (is_left m s f) s.blocks a ha (ap (λ x. is_white x && in_scope m s a) w ∙ t)) in let no_way : true ≡ false = sym here ∙ out in cc)
        ]
      ]
    ]
