use Rattle.std.proofs.Common.{◌+◌, rules, sym, map, string_bytes, drop}
use Rattle.command_words.proofs.Walk.{next_word, no_words, goes_on, stops, ends}
use Rattle.command_words.proofs.judge.are_good.Goals as goal

pub returns-in-None : goal.returns-in-None
returns-in-None c =
    let words = c.args.words.now in
    let i = c.loop-word.word-index in
    let next = next_word words i c.word-item.result c.as_bytes.result.now (search rules) (search rules) c.as_bytes.ensures.value in
    sym (stops (map string_bytes words) (map string_bytes (drop (i + 1) words)) _ c.as_bytes.result.now c.loop-word.line c.read_word.result c.loop-word.invariant next c.in-None.is c.read_word.ensures)

pub loop-word-preserved : goal.loop-word-preserved
loop-word-preserved c =
    let words = c.args.words.now in
    let i = c.loop-word.word-index in
    let next = next_word words i c.word-item.result c.as_bytes.result.now (search rules) (search rules) c.as_bytes.ensures.value in
    goes_on (map string_bytes words) (map string_bytes (drop (i + 1) words)) _ c.as_bytes.result.now c.loop-word.line c.in-Some.next c.read_word.result c.loop-word.invariant next c.in-Some.is c.read_word.ensures

pub returns : goal.returns
returns c =
    let words = c.args.words.now in
    ends (map string_bytes words) _ c.loop-word.line c.is_whole.result c.loop-word.invariant (no_words words c.loop-word.word-index c.loop-word-test.false) c.is_whole.ensures
