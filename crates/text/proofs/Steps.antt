-- From one word to the next.
use Rattle.std.proofs.Common.{◌≡◌, ℕ, List, [], ◌∷◌, Some, None, Ok, Err, Bor, Option, Result, sym, refl, ap, subst, arith}
use Rattle.std.specs.Option.{ok_or}
use Rattle.text.specs.declared.stop.Stop.{Stop}
use Rattle.text.specs.declared.stop.Stop.TheVariants.{Unread, Memory}
use Rattle.text.specs.Reads.{Read, Told, known, next}

-- a word that is there is read
pub at_word : {A : Type 0} (missing : List ℕ) (read : List ℕ → Read A) (ws : List (List ℕ)) (w : List ℕ) → next missing Ok ws ≡ Ok w → next missing read ws ≡ read w
at_word missing read [] w e = let z : ◌≡◌ {A = ℕ} 0 1 = cc in absurd (omega arith)
at_word missing read (v ∷ ws) w e = ap read (cc)

pub told_word : {A B : Type 0} (view : A → B) (r : Result A Stop) (missing : List ℕ) (read : List ℕ → Read B) (ws : List (List ℕ)) (w : List ℕ) → next missing Ok ws ≡ Ok w → Told view r (read w) → Told view r (next missing read ws)
told_word view r missing read ws w e told = subst (Told view r) (sym (at_word missing read ws w e)) told

-- a word that is missing is missing whatever it would be read as
pub told_missing : {A B C : Type 0} (view : A → B) (see : C → List ℕ) (missing : List ℕ) (read : List ℕ → Read B) (ws : List (List ℕ)) (r : Result A Stop) (stop : Stop) → r ≡ Err stop → Told see (Err stop) (next missing Ok ws) → Told view r (next missing read ws)
told_missing view see missing read [] r (Unread why) e told = subst (λ v. Told view v (Err missing)) (sym e) (cc)
told_missing view see missing read (w ∷ ws) r (Unread why) e told = let z : ◌≡◌ {A = ℕ} 0 1 = cc in absurd (omega arith)
told_missing view see missing read ws r Memory e told = subst (λ v. Told view v (next missing read ws)) (sym e) tt

-- what may be missing is known, or the reason is told
pub told_known : {A : Type 0} (r : Result A Stop) (found : Option A) (why : Bor (List ℕ)) → r ≡ ok_or found (Unread why) → Told (λ a. a) r (known why.now found)
told_known r None why e = subst (λ v. Told (λ a. a) v (known why.now None)) (sym e) refl
told_known r (Some a) why e = subst (λ v. Told (λ a. a) v (known why.now (Some a))) (sym e) refl
