use Rattle.std.proofs.Common.{◌≡◌, ◌<◌, ◌+◌, ◌++◌, ◌∷◌, [], length, take, sym, ap, ◌∙◌, subst, arith, slice_set}
use Rattle.std.proofs.lemmas.List.{take_more, length-take-le, length-set}
use Rattle.flow_bounds.specs.Walk.{walk_start, serve, serve_all, AreWalks}
use Rattle.flow_bounds.specs.Load.{AreLoads}
use Rattle.flow_bounds.proofs.WalkLemmas.{walks-more, serve_all-append}
use Rattle.flow_bounds.proofs.LoadLemmas.{loads-more}
use Rattle.flow_bounds.proofs.line_walks.walk_along.Goals as goal

pub loop-i-preserved : goal.loop-i-preserved
loop-i-preserved c =
    let I = c.args.instance.now in
    let ch = c.args.chamber in
    let i = c.loop-i.i in
    let line = c.args.line.now in
    let old = c.loop-i.along in
    let g = c.index-line-i.result in
    let w = c.serve-walk.result in
    let own = c.load_of-load.result in
    let less : i < length line = omega arith in
    let known : length (take i line) ≡ i = length-take-le i line (omega arith) in
    let more : take (i + 1) line ≡ take i line ++ g ∷ [] = take_more line i g less ∙ ap (λ x. take i line ++ x ∷ []) (sym c.index-line-i.is) in
    let is : w ≡ serve I ch (serve_all I ch (walk_start I ch) (take i line)) g = c.serve-walk.ensures.value g c.load_of-load.ensures.value ∙ ap (λ w. serve I ch w g) c.loop-i.invariant.walk in
    let at : length (take i line) + 1 ≡ i + 1 = omega (arith, known) in
    record {
      walk = is ∙ sym (serve_all-append I ch (walk_start I ch) (take i line) (g ∷ [])) ∙ ap (serve_all I ch (walk_start I ch)) (sym more);
      along = record {
        walks = subst (λ gs. AreWalks I ch gs (slice_set old.walks (i + 1) w)) (sym more) (subst (λ k. AreWalks I ch (take i line ++ g ∷ []) (slice_set old.walks k w)) at
            (walks-more I ch (take i line) old.walks g w c.loop-i.invariant.along.walks (omega (arith, known, c.loop-i.invariant.walks, c.requires.few)) is (omega (arith, known, c.serve-walk.ensures.done)) (omega (arith, known, c.serve-walk.ensures.done, c.serve-walk.ensures.flow))));
        loads = subst (λ gs. AreLoads I gs (slice_set old.loads i own)) (sym more) (subst (λ k. AreLoads I (take i line ++ g ∷ []) (slice_set old.loads k own)) known
            (loads-more I (take i line) old.loads g own c.loop-i.invariant.along.loads (omega (arith, known, c.loop-i.invariant.loads, c.requires.few)) c.load_of-load.ensures.value c.load_of-load.ensures.kept));
      };
      walks = omega (arith, length-set old.walks (i + 1) w, c.loop-i.invariant.walks);
      loads = omega (arith, length-set old.loads i own, c.loop-i.invariant.loads);
      done = omega arith;
      flow = omega arith;
    }
