-- Sessions that meet
use Rattle.std.proofs.Common.{◌≡◌, Bool, true, false, List, leb, length, sym, ap, subst, ◌∙◌}
use mathlib.Core.List.{IsPrefix}
use Rattle.az_base.specs.declared.options.Options.{Options}
use Rattle.zone_model.specs.declared.entry.Entry.{Entry}
use Rattle.zone_model.specs.History.{Legal, entries_of}
use Rattle.zone_gate.specs.Shown.{SeatShown}
use Rattle.zone_gate.specs.Views.{longer, chosen_list}
use Rattle.local_set.specs.LocalSets.{LocalSet}
use Rattle.auto_zone.specs.Sessions.{Always}
use Rattle.zone_model.proofs.Cycling.{free_stays}
use Rattle.auto_zone.proofs.Later.{still_belongs}

pub legal_longer : (o : Options) (xs ys : List Entry) → Legal o xs → Legal o ys → Legal o (longer xs ys)
legal_longer o xs ys a b = by (leb (length ys) (length xs))
  where
    by : (t : Bool) → Legal o (chosen_list t xs ys)
    by true = a
    by false = b

always_legal : (s : SeatShown) (l : LocalSet) → Always s l → Legal s.options s.seen
always_legal s l a = (a.state, a.ends)

-- a session that has seen more
pub met : (s u : SeatShown) (l : LocalSet) (w : List Entry) → Always s l → u ≡ record s { seen = w } → IsPrefix s.seen u.seen → u.own ≡ entries_of u.thread u.seen → Legal s.options w → Always u l
met s u l w always is begins own legal =
    let seen = ap (λ (x : SeatShown). x.seen) is in
    let mine = ap (λ (x : SeatShown). x.own) is in
    let thread = ap (λ (x : SeatShown). x.thread) is in
    let options = ap (λ (x : SeatShown). x.options) is in
    let all : entries_of s.thread w ≡ s.own = sym (ap (λ t. entries_of t u.seen) thread ∙ ap (entries_of s.thread) seen) ∙ sym own ∙ mine in
    let now = still_belongs free_stays s l w legal.0 always (subst (IsPrefix s.seen) seen begins) all legal.1 in
    subst (λ x. Always x l) (sym is) (record { state = legal.0; ends = legal.1; own = all; thread = always.thread; belongs = now.0; phase = now.1; running = always.running })

-- both of two sessions that meet
pub met_first : (s b u : SeatShown) (l m : LocalSet) → Always s l → Always b m → s.options ≡ b.options → u ≡ record s { seen = longer s.seen b.seen } → IsPrefix s.seen u.seen → u.own ≡ entries_of u.thread u.seen → Always u l
met_first s b u l m one two same is begins own = met s u l (longer s.seen b.seen) one is begins own (legal_longer s.options s.seen b.seen (always_legal s l one) (subst (λ o. Legal o b.seen) (sym same) (always_legal b m two)))

pub met_second : (s b v u : SeatShown) (l m : LocalSet) → Always s l → Always b m → s.options ≡ b.options → v ≡ record b { seen = longer s.seen b.seen } → u.seen ≡ longer s.seen b.seen → IsPrefix b.seen u.seen → v.own ≡ entries_of v.thread v.seen → Always v m
met_second s b v u l m one two same is far begins own =
    met b v m (longer s.seen b.seen) two is (subst (IsPrefix b.seen) (far ∙ sym (ap (λ (x : SeatShown). x.seen) is)) begins) own
    (legal_longer b.options s.seen b.seen (subst (λ o. Legal o s.seen) same (always_legal s l one)) (always_legal b m two))
