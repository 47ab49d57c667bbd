use Rattle.std.proofs.Common.{◌∙◌, ap, arith, ◌≡◌, length, slice_index_or, ℕ}
use Rattle.refute_rules.specs.Choices.{berths_of}
use Rattle.deck_cases.specs.Berths.{first_berth}
use Rattle.spot_place.proofs.KeptLemmas.{shown-berths}
use Rattle.spot_place.proofs.OptionLemmas.{known-option}
use Rattle.spot_place.proofs.TakeLemmas.{berth-taken}
use Rattle.spot_place.proofs.spot_case.SpotCase.take_berth.Goals as goal

pub moor-requires-clause-known : goal.moor-requires-clause-known
moor-requires-clause-known c =
    let i = c.self.inside in
    let s = c.args.self.now in
    let at : c.len-ship.result ≡ length s.berths = c.len-ship.ensures.value ∙ shown-berths i.deck i.values i.berths.items i.places.items i.levels.items c.self.invariant s c.self.view_is in
    let room = c.requires.room in
    known-option s.deck c.len-ship.result c.args.option c.berth_option.result (omega (arith, at, room)) c.requires.option
    (c.berth_option.ensures ∙ ap (λ (n : ℕ). slice_index_or (berths_of n c.len-ship.result) c.args.option first_berth) c.ships.ensures.value)

pub returns-clause-case : goal.returns-clause-case
returns-clause-case c =
    let i = c.self.inside in
    let s = c.args.self.now in
    berth-taken s c.moor.new.self c.berth_option.result c.len-ship.result c.args.option (c.len-ship.ensures.value ∙ shown-berths i.deck i.values i.berths.items i.places.items i.levels.items c.self.invariant s c.self.view_is)
    (c.berth_option.ensures ∙ ap (λ (n : ℕ). slice_index_or (berths_of n c.len-ship.result) c.args.option first_berth) c.ships.ensures.value) c.requires.room c.requires.step c.requires.option c.moor.ensures
