use Rattle.std.proofs.Common.{◌≡◌, ◌∙◌, sym, refl, subst, arith, MatchOption, slice_get, length, ℕ}
use Rattle.quantum_space.specs.Shapes.{Shape}
use Rattle.finalise_pass.specs.Kept.{Sows, IsSown}
use Rattle.finalise_pass.proofs.Outcomes.{apart_sown, sow_on}
use Rattle.finalise_pass.proofs.settling.sow_remembered.Goals as goal

pub loop-n-init : goal.loop-n-init
loop-n-init g c = record {
  tracks = c.requires.tracks;
  mode = c.requires.mode;
  room = refl;
  sown = λ r within apart. apart_sown (g.G.Graph.shape c.args.graph.now) r _ apart;
  only = record { shape = refl; rest = refl };
}

pub loop-n-preserved : goal.loop-n-preserved
loop-n-preserved g c =
    let i = c.loop-n.invariant in
    let e = c.sow_nth.ensures in
    let s : Shape = g.G.Graph.shape c.args.graph.now in
    record {
      tracks = e.tracks;
      mode = e.mode;
      room = e.room ∙ i.room;
      sown = λ r within apart. sow_on g.G.Graph.shades s r c.loop-n.n c.loop-n.graph c.sow_nth.new.graph within (i.sown r within apart)
          (subst (λ (x : Shape). MatchOption (slice_get x.remembered c.loop-n.n) (c.sow_nth.new.graph ≡ c.loop-n.graph) (λ a. Sows x a (g.G.Graph.shades c.loop-n.graph) (g.G.Graph.shades c.sow_nth.new.graph))) i.only.shape e.nth);
      only = record { shape = e.only.shape ∙ i.only.shape; rest = e.only.rest ∙ i.only.rest };
    }

pub returns-clause-sown : goal.returns-clause-sown
returns-clause-sown g c = λ r within apart.
    let s : Shape = g.G.Graph.shape c.args.graph.now in
    let count : length s.remembered ≡ c.loop-n.n = omega (arith, c.remembered_count-count.ensures, c.loop-n-test.false, c.loop-n.auto.n-end) in
    subst (λ (n : ℕ). IsSown s r n (g.G.Graph.shades c.loop-n.graph)) (sym count) (c.loop-n.invariant.sown r within apart)
