use Rattle.std.proofs.Common.{◌≡◌, ℕ, ◌+◌, ◌-◌, ◌≤◌, List, length, take, drop, sym, ap, ◌∙◌, arith}
use Rattle.std.proofs.lemmas.List.{drop-drop, drop-take, length-take}
use Rattle.iiod_client.proofs.incoming.Incoming.skip.Goals as goal

pub returns : goal.returns
returns c =
    let a = c.self.inside in
    let n = c.args.count in
    let m = a.until - a.from - n in
    let few : n ≤ a.until - a.from =
    omega (arith, c.requires, ap (λ (xs : List ℕ). length xs) c.self.view_is, length-take (a.until - a.from) (drop a.from a.piece)) in
    let rest : a.until - (a.from + n) ≡ m = omega arith in
    let all : n + m ≡ a.until - a.from = omega (arith, few) in
    ap (λ k. take k (drop (a.from + n) a.piece)) rest ∙ ap (λ xs. take m xs) (sym (drop-drop n a.from a.piece)) ∙ sym (drop-take n m (drop a.from a.piece))
    ∙ ap (λ k. drop n (take k (drop a.from a.piece))) all ∙ ap (λ xs. drop n xs) c.self.view_is
