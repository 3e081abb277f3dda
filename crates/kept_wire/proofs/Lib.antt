mod AsItWas
mod Earlier
mod Going
mod InARow
mod OpenedSoFar
mod WholeSoFar
