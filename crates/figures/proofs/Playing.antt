-- What a run of orders that send nothing comes to. Assumes nothing.
use Rattle.std.proofs.Common.{◌≡◌, ℕ, min, List, [], ◌∷◌, ◌++◌, length, take, drop, sym, refl, ap, ◌∙◌, subst, ap₂, arith}
use Rattle.std.proofs.lemmas.List.{append-nil, take_all, drop_all, take-append-drop}
use Rattle.radio.specs.Outlets.{State}
use Rattle.orders.specs.declared.order.Order.{Order}
use Rattle.orders.specs.declared.order.Order.TheVariants.{Strength, Identity, Mute, Read, Send}
use Rattle.orders.specs.Outcomes.{DoneOrRefused}
use Rattle.orders.specs.Runs.{Stand, Plays}
use Rattle.figures.specs.Orders.{SendsNothing, come_to}

module _ {A : Type 0} (state : A → State) (own : ℕ) where
  next : (os : List Order) (a b : Stand A) → a ≡ b → come_to own a.filters a.heard os ≡ come_to own b.filters b.heard os
  next os a b e = ap (λ s. come_to own s.filters s.heard os) e

  plays_come_to : (os : List Order) (xs : List DoneOrRefused) (a b : Stand A) → SendsNothing os → Plays state own os xs a b → xs ≡ come_to own a.filters a.heard os
  plays_come_to [] [] a b n p = refl
  plays_come_to [] (x ∷ xs) a b n p = absurd p
  plays_come_to (o ∷ os) [] a b n p = absurd p
  plays_come_to (Strength limit ∷ os) (x ∷ xs) a b n p = ap₂ (λ y ys. y ∷ ys) p.1.0 (plays_come_to os xs p.0 b n p.2 ∙ next os p.0 _ p.1.1)
  plays_come_to (Identity on ∷ os) (x ∷ xs) a b n p = ap₂ (λ y ys. y ∷ ys) p.1.0 (plays_come_to os xs p.0 b n p.2 ∙ next os p.0 _ p.1.1)
  plays_come_to (Mute k on ∷ os) (x ∷ xs) a b n p = ap₂ (λ y ys. y ∷ ys) p.1.0 (plays_come_to os xs p.0 b n p.2 ∙ next os p.0 _ p.1.1)
  plays_come_to (Read strength room ∷ os) (x ∷ xs) a b n p = ap₂ (λ y ys. y ∷ ys) p.1.0 (plays_come_to os xs p.0 b n p.2 ∙ next os p.0 _ p.1.1)
  plays_come_to (Send sealed q ∷ os) (x ∷ xs) a b n p = absurd n

  -- with room for just their outcomes, all orders are played, and they leave what they come to
  pub all_come_to : (os : List Order) (n : ℕ) (before after : List DoneOrRefused) (a b : Stand A) → SendsNothing os → length before ≡ length os → n ≡ min (length os) (length before)
      → drop n after ≡ drop n before → Plays state own (take n os) (take n after) a b → after ≡ come_to own a.filters a.heard os
  all_come_to os n before after a b none room count behind plays =
      let all : take n os ≡ os = take_all n os (omega arith) in
      sym (take-append-drop n after) ∙ ap (λ z. take n after ++ z) (behind ∙ drop_all n before (omega arith)) ∙ append-nil (take n after)
      ∙ plays_come_to (take n os) (take n after) a b (subst SendsNothing (sym all) none) plays ∙ ap (come_to own a.filters a.heard) all
